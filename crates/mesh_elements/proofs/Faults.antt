-- The four faults of an element, and that it has none.
--     fault-kind, fault-number, fault-unlisted, fault-twice     each makes it faulty
--     no-fault                                                  where none applies it is right
use mathlib.Core.Path.{◌≡◌, refl, ap}
use mathlib.Core.Logic.{◌≢◌}
use mathlib.Core.Bool.{Bool, true, false, not, ◌||◌, or-true}
use Prim.Native.Nat.{ℕ}
use lib.Dec.{eqb}
use lib.ListN.{length}
use borrow.Author.Tests.{eq-eqb, ne_eqb}
use Rattle.lists.specs.Same.{every}
use Rattle.closures.specs.Closure.{repeats}
use Rattle.mesh_format.specs.Mesh.{Element}
use Rattle.imports.specs.Import.{nodes_of_kind, faulty}

module _ (is_listed : ℕ → Bool) (e : Element) where
  abbrev another-kind : Bool
  another-kind = eqb (nodes_of_kind e.kind) 0

  abbrev another-number : Bool
  another-number = not (eqb (length e.nodes) (nodes_of_kind e.kind))

  abbrev unlisted : Bool
  unlisted = not (every is_listed e.nodes)

  pub fault-kind : nodes_of_kind e.kind ≡ 0 → faulty is_listed e ≡ true
  unfolding faulty
  fault-kind h = rw (eq-eqb (nodes_of_kind e.kind) 0 h) refl

  pub fault-number : length e.nodes ≢ nodes_of_kind e.kind → faulty is_listed e ≡ true
  unfolding faulty
  fault-number h = rw (ne_eqb (length e.nodes) (nodes_of_kind e.kind) h) (ap (λ (b : Bool). b || unlisted || repeats e.nodes) (or-true another-kind))

  pub fault-unlisted : every is_listed e.nodes ≡ false → faulty is_listed e ≡ true
  unfolding faulty
  fault-unlisted h = rw h (ap (λ (b : Bool). b || repeats e.nodes) (or-true (another-kind || another-number)))

  pub fault-twice : repeats e.nodes ≡ true → faulty is_listed e ≡ true
  unfolding faulty
  fault-twice h = rw h (or-true (another-kind || another-number || unlisted))

  pub no-fault : nodes_of_kind e.kind ≢ 0 → length e.nodes ≡ nodes_of_kind e.kind → every is_listed e.nodes ≡ true → repeats e.nodes ≡ false
      → faulty is_listed e ≡ false
  unfolding faulty
  no-fault k n l r = rw (ne_eqb (nodes_of_kind e.kind) 0 k, eq-eqb (length e.nodes) (nodes_of_kind e.kind) n, l, r) refl
