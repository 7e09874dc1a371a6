-- The loop of `put_report`: the invariant `Generators` is that the lines of the first i generators are put.
--     generators-none                                           where the loop starts
--     generators-inside, coefficients-many, generators-room     in a turn
--     generators-more                                           after a turn
--     report-put                                                where the loop ends: the first line and all others
use mathlib.Core.Path.{◌≡◌, refl, sym, ap, ◌∙◌, subst}
use mathlib.Core.List.{List, ◌∷◌, ◌++◌}
use Prim.Native.Nat.{ℕ, ◌+◌, ◌*◌, ◌-◌, ◌≤◌, ◌<◌}
use native.Mathlib.Nat.{mul-le-mul_right, suc-mul}
use native.Mathlib.Numerals.{add-one}
use native.Mathlib.Omega.{arith}
use lib.ListN.{length, take, drop, length-take, length-drop}
use lib.Seq.{drop-drop}
use lib.IntN.{ℤ, pos}
use Rattle.limits.specs.Limits.{host_limit}
use Rattle.program_text.specs.Text.{line, generators_text, report_text}
use Rattle.program_text.proofs.TextLaws.{generators_text-suc}
use Rattle.text.specs.Put.{PutsWithin}
use Rattle.text.specs.Room.{line_room, heading_room, generator_room, dimension_room}
use Rattle.text.specs.PutLaws.{within-nothing, within-append, within_more, within-next, within-kept}

-- the coefficients of generator i stand within the report
pub generators-inside : (n t k i : ℕ) (report : List ℤ) → i < k → 2 + t + k * n ≤ length report → 2 + t + i * n + n ≤ length report
generators-inside n t k i report l h = omega (arith, mul-le-mul_right n l, suc-mul i n)

-- the slice of them, in the terms of its bounds
pub coefficients-many : (n t i : ℕ) (report : List ℤ) → 2 + t + i * n + n ≤ length report
    → length (take (2 + t + i * n + n - (2 + t + i * n)) (drop (2 + t + i * n) report)) ≡ n
coefficients-many n t i report h = simp (length-take, length-drop) (omega arith)

pub record Generators (n t : ℕ) (report : List ℤ) (out₀ : List ℕ) (at next i : ℕ) (out : List ℕ) : Type 0 where
  pub put : PutsWithin (generator_room * i) (generators_text n i (drop (2 + t) report)) at out₀ next out
  pub kept : length out ≡ length out₀

module _ {n t : ℕ} {report : List ℤ} {out₀ : List ℕ} {at : ℕ} where
  pub generators-none : Generators n t report out₀ at at 0 out₀
  unfolding generators_text
  generators-none = record { put = within-nothing at out₀; kept = refl }

  module _ {next i : ℕ} {out : List ℕ} (h : Generators n t report out₀ at next i out) (l : i < host_limit) (room : at + generator_room * host_limit ≤ length out₀) where
    -- the room is enough for one line more
    pub generators-room : next + generator_room ≤ length out
    generators-room = omega (arith, within-next h.put, h.kept)

    pub generators-more : n ≤ host_limit → 2 + t + i * n + n ≤ length report → {r : ℕ} {out' : List ℕ}
        → let slice = take (2 + t + i * n + n - (2 + t + i * n)) (drop (2 + t + i * n) report) in PutsWithin (line_room (length slice)) (line 71 slice) next out r out'
        → Generators n t report out₀ at r (i + 1) out'
    generators-more small inside {r} {out'} a = record {
      put =
          subst (λ (text : List ℕ). PutsWithin (generator_room * (i + 1)) text at out₀ r out') (sym text-is)
          (within_more (omega arith) (within-append (omega arith) h.put line-put));
      kept = within-kept (omega (arith, generators-room)) line-put ∙ h.kept;
    }
      where
        size_is : 2 + t + i * n + n - (2 + t + i * n) ≡ n
        size_is = omega arith

        line-put : PutsWithin (line_room n) (line 71 (take n (drop (2 + t + i * n) report))) next out r out'
        line-put = rw (coefficients-many n t i report inside, size_is) at a

        text-is : generators_text n (i + 1) (drop (2 + t) report) ≡ generators_text n i (drop (2 + t) report) ++ line 71 (take n (drop (2 + t + i * n) report))
        text-is =
            ap (λ (m : ℕ). generators_text n m (drop (2 + t) report)) (add-one i)
            ∙ generators_text-suc n i (drop (2 + t) report)
            ∙ ap (λ (from : List ℤ). generators_text n i (drop (2 + t) report) ++ line 71 (take n from)) (drop-drop (i * n) (2 + t) report)

  -- the first line, put before the loop, and the others
  pub report-put : (p k : ℕ) {next i start : ℕ} {entry out : List ℕ} → start ≤ length entry
      → PutsWithin heading_room (line 72 (pos p ∷ take (2 + t) report)) start entry at out₀
      → Generators n t report out₀ at next i out → i ≡ k → k ≤ host_limit
      → PutsWithin dimension_room (report_text p n t k report) start entry next out
  unfolding report_text
  report-put p k {next} {i} {start} {entry} {out} room a h e small =
      subst (λ (m : ℕ). PutsWithin dimension_room (line 72 (pos p ∷ take (2 + t) report) ++ generators_text n m (drop (2 + t) report)) start entry next out) e
      (within_more (omega arith) (within-append room a h.put))
