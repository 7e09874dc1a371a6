-- The texts of the dimensions one behind the other: `dimensions_text-suc`, one dimension more; `Printed`, the loop's invariant, with `printed-none`,
-- `printed-room`, `printed-more` and `printed-all`.
use mathlib.Core.Path.{◌≡◌, refl, sym, ◌∙◌, ap, subst}
use mathlib.Core.List.{List, ◌++◌, append-nil, append_assoc}
use Prim.Native.Nat.{ℕ, zero, suc, ◌+◌, ◌*◌, ◌≤◌}
use native.Mathlib.Numerals.{add-one}
use native.Mathlib.Omega.{arith}
use lib.ListN.{length}
use Rattle.sheet_format.specs.Layout.{top}
use Rattle.program_text.specs.Text.{dimensions_text}
use Rattle.text.specs.Put.{PutsWithin}
use Rattle.text.specs.Room.{dimension_room, text_room}
use Rattle.text.specs.PutLaws.{within-nothing, within-append, within_more, within-next, within-kept}
use Rattle.printer.proofs.Dimension.{text_of}

-- the text of one dimension more stands behind the others
dimensions_text-suc : (b : List ℕ) (k q : ℕ) → dimensions_text b (suc k) q ≡ dimensions_text b k q ++ text_of b (q + k)
unfolding dimensions_text
dimensions_text-suc b zero q = append-nil (text_of b q) ∙ ap (text_of b) (omega arith)
dimensions_text-suc b (suc k) q =
    ap (λ (rest : List ℕ). text_of b q ++ rest) (dimensions_text-suc b k (suc q))
    ∙ sym (append_assoc (text_of b q) (dimensions_text b k (suc q)) (text_of b (suc q + k)))
    ∙ ap (λ (i : ℕ). (text_of b q ++ dimensions_text b k (suc q)) ++ text_of b i) (omega arith)

-- the texts of the dimensions below p are put
pub record Printed (b : List ℕ) (out₀ : List ℕ) (at : ℕ) (out : List ℕ) (next p : ℕ) : Type 0 where
  pub puts : PutsWithin (dimension_room * p) (dimensions_text b p 0) at out₀ next out
  pub out-size : length out ≡ length out₀

pub printed-none : (b out : List ℕ) (at : ℕ) → Printed b out at out at 0
unfolding dimensions_text
printed-none b out at = record { puts = within-nothing at out; out-size = refl }

module _ {b out₀ : List ℕ} {at : ℕ} {out : List ℕ} {next p : ℕ} (h : Printed b out₀ at out next p) where
  module _ (room : at + text_room ≤ length out₀) (le : p ≤ top) where
    -- the room is enough for one dimension more
    pub printed-room : next + dimension_room ≤ length out
    printed-room = omega (arith, within-next h.puts, h.out-size)

    pub printed-more : {out' : List ℕ} {next' : ℕ} → PutsWithin dimension_room (text_of b p) next out next' out' → Printed b out₀ at out' next' (p + 1)
    printed-more {out'} {next'} puts = record {
      puts = subst (λ (text : List ℕ). PutsWithin (dimension_room * (p + 1)) text at out₀ next' out') same (within_more (omega arith) (within-append (omega arith) h.puts puts));
      out-size = within-kept printed-room puts ∙ h.out-size;
    }
      where
        same : dimensions_text b p 0 ++ text_of b p ≡ dimensions_text b (p + 1) 0
        same =
            ap (λ (i : ℕ). dimensions_text b p 0 ++ text_of b i) (omega arith)
            ∙ sym (dimensions_text-suc b p 0)
            ∙ ap (λ (k : ℕ). dimensions_text b k 0) (sym (add-one p))

  -- all of them
  pub printed-all : p ≡ suc top → PutsWithin text_room (dimensions_text b (suc top) 0) at out₀ next out
  printed-all e = subst (λ (k : ℕ). PutsWithin (dimension_room * k) (dimensions_text b k 0) at out₀ next out) e h.puts
