-- The early checks of a call on many chains, for the library's calls and the host's: admission-told, where 1 to 9 tell one; length-told, 10;
-- cycles-next, where 11 and 12 decide; small-coefficients, of chains that are not at fault.
use mathlib.Core.Path.{◌≡◌, refl, ◌∙◌}
use mathlib.Core.Logic.{◌≢◌}
use mathlib.Core.Bool.{Bool}
use mathlib.Core.List.{List, ◌++◌}
use Prim.Native.Nat.{ℕ, ◌*◌, ◌≤◌, ◌<◌}
use borrow.Author.Tests.{ne_eqb}
use lib.IntN.{ℤ, pos, nat_abs}
use lib.ListN.{length, get_or}
use Rattle.limits.specs.Limits.{coefficient_limit}
use Rattle.trials.specs.Trial.{first_refusal}
use Rattle.complexes.specs.Complex.{Sections}
use Rattle.sheet_format.specs.Check.{sections_of}
use Rattle.requests.specs.Question.{cells}
use Rattle.requests.specs.Chains.{chain_at, cycles_checks, chains_checks}
use Rattle.requests.proofs.ChainsLaws.{cycles-zero, chains-sized, fault-small}
use Rattle.requests.specs.Call.{lists, call_checks, early_checks}
use Rattle.refusal.specs.Number.{number_of}
use Rattle.refusal.specs.declared.Refusal.{Refusal}
use Rattle.calls.specs.Admission.{admission}
use Rattle.two_reductions.specs.declared.cell_counts.CellCounts.{CellCounts}
use Rattle.calls.specs.declared.admission.Request.TheVariants.{Coordinates}
use Rattle.calls.proofs.Admitting.{Lengths, cells_of, slots_asked, space_asked, Granted}
use Rattle.calls.proofs.EarlyChecks.{early-told, early-next}

module _ (l : Lengths) (many : ℕ) (chains : List ℤ) where
  abbrev K : Sections
  K = sections_of l.question.sheet

  abbrev p : ℕ
  p = l.question.dimension

  -- the first of the early checks
  abbrev pub lists_early : ℕ
  lists_early = first_refusal (early_checks l.limit l.question (lists many chains) l.slots l.work)

  -- 10 to 12
  abbrev chain_checked : List (ℕ × Bool)
  chain_checked = chains_checks coefficient_limit K p many chains

  early-is : lists_early
      ≡ first_refusal (call_checks l.limit l.question (slots_asked l (Coordinates many)) (space_asked l (Coordinates many)) l.slots l.work ++ chain_checked)
  unfolding early_checks cells
  early-is = refl

  pub admission-told : (x : Refusal) → admission l.limit l.question (Coordinates many) l.slots l.work ≡ number_of x → lists_early ≡ number_of x
  admission-told = early-told l (Coordinates many) chain_checked early-is

  module _ {n : CellCounts} (g : Granted l (Coordinates many) n) where
    chains-next : lists_early ≡ first_refusal chain_checked
    chains-next = early-next l (Coordinates many) chain_checked early-is g

    pub length-told : length chains ≢ many * cells_of l.question → lists_early ≡ 10
    unfolding chains_checks
    length-told d = chains-next ∙ rw (ne_eqb (length chains) (many * cells_of l.question) d)

    pub cycles-next : length chains ≡ many * cells_of l.question → lists_early ≡ first_refusal (cycles_checks coefficient_limit K p many chains)
    cycles-next size = chains-next ∙ chains-sized coefficient_limit K p chains many size

  pub small-coefficients : first_refusal (cycles_checks coefficient_limit K p many chains) ≡ 0 → (i : ℕ) → i < many → (j : ℕ)
      → nat_abs (get_or (chain_at (cells_of l.question) chains i) j (pos 0)) ≤ coefficient_limit
  small-coefficients passed i m = fault-small coefficient_limit K p chains i ((cycles-zero coefficient_limit K p chains many).0 passed i m)
