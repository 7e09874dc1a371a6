-- Where a reading ended, whatever was read.
--     skipped        what was read is left aside
--     skip-then      what is read behind it without a value of its own
--     none-read, read-to       the reading, from the answer
use mathlib.Core.Path.{◌≡◌, refl, ap}
use Prim.Native.Nat.{ℕ}
use Rattle.std.specs.Prelude.{Some, None}
use Rattle.mesh_format.specs.Parse.{Parsed, malformed, parsed, then}
use Rattle.mesh_words.specs.Steps.{skip}
use Rattle.mesh_words.specs.Tells.{tell_skipped}
use Rattle.mesh_words.specs.declared.reader.Reader.{Reader}
use Rattle.mesh_words.proofs.Steps.{unskip, skip-missing}
use Rattle.mesh_words.proofs.Told.{Moved, skipped-none, skipped-moved}

pub skipped : {A : Type 0} {p : Parsed A} {x : A} {at : ℕ} → p ≡ parsed x at → skip p ≡ parsed tt at
unfolding skip then
skipped e = ap skip e

pub skip-then : {A : Type 0} (p : Parsed Unit) (x : A) → skip (then p (λ _ at. parsed x at)) ≡ p
unfolding skip then
skip-then malformed x = refl
skip-then (parsed tt at) x = refl

pub none-read : {A : Type 0} (r : Reader) {p : Parsed A} → None ≡ tell_skipped r (skip p) → p ≡ malformed
none-read r {p} h = skip-missing p (skipped-none r h)

-- something was read from r on, up to where q stands
pub record ReadTo {A : Type 0} (p : Parsed A) (r q : Reader) : Type 0 where
  pub read : A
  pub moves : Moved p read r q

pub read-to : {A : Type 0} (r : Reader) {p : Parsed A} {q : Reader} → Some q ≡ tell_skipped r (skip p) → ReadTo p r q
read-to r {p} h =
    let m = skipped-moved r h in let k = unskip p m.is in record { read = k.read; moves = record { is = k.is; same = m.same } }
