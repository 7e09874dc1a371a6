-- Sublists of cells.
--     Sublist-trans      a sublist of a sublist
--     Sublist-whole      one that is no shorter is the whole cell
--     Sublist-rises      those of a cell that rises rise
--     Widened, widen     a shorter one is a face of a sublist with one more vertex
use mathlib.Core.Path.{◌≡◌, refl, ap}
use mathlib.Core.Bool.{true}
use mathlib.Core.List.{◌∷◌}
use Prim.Native.Nat.{ℕ, suc, ◌<◌, ◌≤◌}
use native.Mathlib.Omega.{arith}
use lib.Dec.{ltb}
use lib.ListN.{length}
use Rattle.complexes.specs.Cell.{Cell, without, rises, Sublist, none, skip, keep}
use Rattle.complexes.proofs.Faces.{Sublist-length}
use Rattle.complexes.proofs.Subsets.{sublist-subset}
use Rattle.closures.specs.Rising.{Rising}
use Rattle.closures.proofs.RisingLaws.{numbers-order, vertex-stands, rising-tail, rising-head, rising-cons}
use Rattle.closures.proofs.CellWithLaws.{rises-rising, rising-rises}

pub Sublist-trans : {a b c : Cell} → Sublist a b → Sublist b c → Sublist a c
Sublist-trans r none = r
Sublist-trans r (skip v s) = skip v (Sublist-trans r s)
Sublist-trans (skip w r) (keep v s) = skip v (Sublist-trans r s)
Sublist-trans (keep w r) (keep v s) = keep v (Sublist-trans r s)

pub Sublist-whole : {d c : Cell} → Sublist d c → length c ≤ length d → d ≡ c
Sublist-whole none h = refl
Sublist-whole (skip v s) h = absurd (omega (arith, Sublist-length s))
Sublist-whole (keep v s) h = ap {B = Cell} (λ r. v ∷ r) (Sublist-whole s (omega arith))

Sublist-rising : {d c : Cell} → Sublist d c → Rising ltb 0 c → Rising ltb 0 d
Sublist-rising none r = r
Sublist-rising (skip {c = c} v s) r = Sublist-rising s (rising-tail ltb numbers-order 0 v c r)
Sublist-rising (keep {d = d} {c = c} v s) r =
    rising-cons ltb numbers-order 0 v d
    (λ w h. rising-head ltb numbers-order 0 v c r w (vertex-stands.0 (sublist-subset s w (vertex-stands.1 h))))
    (Sublist-rising s (rising-tail ltb numbers-order 0 v c r))

pub Sublist-rises : {d c : Cell} → Sublist d c → rises c ≡ true → rises d ≡ true
Sublist-rises {d} {c} s r = rising-rises d (Sublist-rising s (rises-rising c r))

-- d is a face of a sublist of c
pub record Widened (d c : Cell) : Type 0 where
  pub cell : Cell
  pub part : Sublist cell c
  pub place : ℕ
  pub below : place < length cell
  pub is : without place cell ≡ d

pub widen : {d c : Cell} → Sublist d c → length d < length c → Widened d c
unfolding without
widen none h = absurd (omega arith)
widen (skip {d = d} v s) h = record { cell = v ∷ d; part = keep v s; place = 0; below = omega arith; is = refl }
widen (keep v s) h =
    let w = widen s (omega arith) in
    record { cell = v ∷ w.cell; part = keep v w.part; place = suc w.place; below = omega (arith, w.below); is = ap {B = Cell} (λ r. v ∷ r) w.is }
