-- What an answer says of the reading that it tells, and the other way.
--     Moved, skipped-moved, read-moved                          what was read, and the reader behind it
--     skipped-none, read-none                                   nothing was read
--     at-none, at-some, at-fails, at-goes                       the same by the position
--     skipped-fails, skipped-goes, read-fails, read-goes        the answer, from the reading
--     skipped-from                                              the same answer, from another reader of the text
use mathlib.Core.Path.{◌≡◌, refl, sym, ap}
use mathlib.Core.List.{List}
use Prim.Native.Nat.{ℕ}
use native.Mathlib.Omega.{arith}
use Rattle.std.specs.Prelude.{Some, None}
use Rattle.std.specs.Borrow.{Bor}
use Rattle.mesh_format.specs.Parse.{Parsed, malformed, parsed}
use Rattle.mesh_words.specs.Tells.{moved, tell_skipped, tell_read, tell_at}
use Rattle.mesh_words.specs.declared.reader.Reader.{Reader}

-- ---- the reading, from the answer

-- p reads x from r on, and q stands behind it
pub record Moved {A : Type 0} (p : Parsed A) (x : A) (r q : Reader) : Type 0 where
  pub is : p ≡ parsed x q.at
  pub same : q.text ≡ r.text

module _ (r : Reader) where
  pub skipped-none : {p : Parsed Unit} → None ≡ tell_skipped r p → p ≡ malformed
  unfolding tell_skipped
  skipped-none {p = malformed} h = refl
  skipped-none {p = parsed tt at} h = absurd (grind arith)

  pub skipped-moved : {p : Parsed Unit} {q : Reader} → Some q ≡ tell_skipped r p → Moved p tt r q
  unfolding tell_skipped
  skipped-moved {p = malformed} h = absurd (grind arith)
  skipped-moved {p = parsed tt at} {q} h =
      let m : moved r at ≡ q = grind arith in record { is = ap (λ (k : Reader). parsed tt k.at) m; same = ap (λ (k : Reader). k.text) (sym m) }

  module _ {A : Type 0} where
    pub read-none : {p : Parsed A} → None ≡ tell_read r p → p ≡ malformed
    unfolding tell_read
    read-none {p = malformed} h = refl
    read-none {p = parsed x at} h = absurd (grind arith)

    pub read-moved : {p : Parsed A} {x : A} {q : Reader} → Some (x, q) ≡ tell_read r p → Moved p x r q
    unfolding tell_read
    read-moved {p = malformed} h = absurd (grind arith)
    read-moved {p = parsed y at} {x} {q} h =
        let z : y ≡ x = grind arith in let m : moved r at ≡ q = grind arith in
        record { is = rw z (ap (λ (k : Reader). parsed x k.at) m); same = ap (λ (k : Reader). k.text) (sym m) }

module _ {A : Type 0} where
  pub at-none : {p : Parsed A} → None ≡ tell_at p → p ≡ malformed
  unfolding tell_at
  at-none {p = malformed} h = refl
  at-none {p = parsed x at} h = absurd (grind arith)

  pub at-some : {p : Parsed A} {x : A} {a : ℕ} → Some (x, a) ≡ tell_at p → p ≡ parsed x a
  unfolding tell_at
  at-some {p = malformed} h = absurd (grind arith)
  at-some {p = parsed y b} {x} {a} h = let z : y ≡ x = grind arith in let w : b ≡ a = grind arith in rw (z, w) refl

-- ---- the answer, from the reading

module _ {A : Type 0} where
  pub at-fails : {p : Parsed A} → p ≡ malformed → None ≡ tell_at p
  unfolding tell_at
  at-fails e = rw e

  pub at-goes : {p : Parsed A} {x : A} {a : ℕ} → p ≡ parsed x a → Some (x, a) ≡ tell_at p
  unfolding tell_at
  at-goes e = rw e

module _ (r : Reader) where
  pub skipped-fails : {p : Parsed Unit} → p ≡ malformed → None ≡ tell_skipped r p
  unfolding tell_skipped
  skipped-fails e = rw e

  pub skipped-goes : {p : Parsed Unit} {q : Reader} → Moved p tt r q → Some q ≡ tell_skipped r p
  unfolding tell_skipped
  skipped-goes {q} m = rw (m.is, ← m.same)

  module _ {A : Type 0} where
    pub read-fails : {p : Parsed A} → p ≡ malformed → None ≡ tell_read r p
    unfolding tell_read
    read-fails e = rw e

    pub read-goes : {p : Parsed A} {x : A} {q : Reader} → Moved p x r q → Some (x, q) ≡ tell_read r p
    unfolding tell_read
    read-goes {q} m = rw (m.is, ← m.same)

-- q stands in the text of r
module _ (read : List ℕ → ℕ → Parsed Unit) (r q : Reader) (same : q.text ≡ r.text) where
  pub skipped-from : tell_skipped q (read q.text.now q.at) ≡ tell_skipped r (read r.text.now q.at)
  unfolding tell_skipped
  skipped-from = go (read r.text.now q.at) (ap (λ (t : Bor (List ℕ)). read t.now q.at) same)
    where
      go : (p : Parsed Unit) → read q.text.now q.at ≡ p → tell_skipped q (read q.text.now q.at) ≡ tell_skipped r p
      go malformed e = rw e
      go (parsed x at) e = rw (e, same)
