-- Steps of reading.
--     fails, goes             a step that fails, and one that goes on
--     skip-fails, skip-goes   .. where what was read is left aside
--     unskip, skip-missing    what was left aside
--     words-none, words-stop, words-to   n words, by the first
--     from, failed-from       what is read behind a step, from the text that reading began in
use mathlib.Core.Path.{◌≡◌, refl, sym, ap, ◌∙◌}
use mathlib.Core.List.{List}
use Prim.Native.Nat.{ℕ, zero, suc, ◌-◌, ◌<◌}
use native.Mathlib.Numerals.{sub-one}
use native.Mathlib.Omega.{arith}
use Rattle.mesh_format.specs.Parse.{Parsed, malformed, parsed, then, gap, word, words}
use Rattle.mesh_format.proofs.ReadLaws.{malformed-fails, parsed-inj}
use Rattle.mesh_words.specs.Steps.{skip}
use Rattle.mesh_words.specs.declared.reader.Reader.{Reader}
use Rattle.mesh_words.proofs.Told.{Moved}

module _ {A B : Type 0} {p : Parsed A} (next : A → ℕ → Parsed B) where
  pub fails : p ≡ malformed → then p next ≡ malformed
  unfolding then
  fails e = rw e

  pub goes : {x : A} {a : ℕ} {q : Parsed B} → p ≡ parsed x a → next x a ≡ q → then p next ≡ q
  unfolding then
  goes e f = rw e f

module _ {A B : Type 0} where
  pub skip-fails : (p : Parsed A) (next : A → ℕ → Parsed B) → skip p ≡ malformed → then p next ≡ malformed
  unfolding then skip
  skip-fails malformed next e = refl
  skip-fails (parsed x a) next e = absurd (malformed-fails (sym e))

  pub skip-goes : (p : Parsed A) (next : ℕ → Parsed B) {a : ℕ} {q : Parsed B} → skip p ≡ parsed tt a → next a ≡ q → then p (λ _ b. next b) ≡ q
  unfolding then skip
  skip-goes malformed next e f = absurd (malformed-fails e)
  skip-goes (parsed x b) next e f = rw ((parsed-inj e).1) f

-- p reads something up to a
pub record ReadTo {A : Type 0} (p : Parsed A) (a : ℕ) : Type 0 where
  pub read : A
  pub is : p ≡ parsed read a

pub unskip : {A : Type 0} (p : Parsed A) {a : ℕ} → skip p ≡ parsed tt a → ReadTo p a
unfolding then skip
unskip malformed e = absurd (malformed-fails e)
unskip (parsed x b) e = record { read = x; is = ap (parsed x) ((parsed-inj e).1) }

pub skip-missing : {A : Type 0} (p : Parsed A) → skip p ≡ malformed → p ≡ malformed
unfolding then skip
skip-missing malformed e = refl
skip-missing (parsed x b) e = absurd (malformed-fails (sym e))

-- q stands in the text of r
module _ {A : Type 0} (read : List ℕ → ℕ → Parsed A) (r : Reader) {q : Reader} (same : q.text ≡ r.text) where
  pub from : {x : A} {z : Reader} → Moved (read q.text.now q.at) x q z → Moved (read r.text.now q.at) x r z
  from m = record { is = rw same at m.is; same = m.same ∙ same }

  pub failed-from : read q.text.now q.at ≡ malformed → read r.text.now q.at ≡ malformed
  failed-from e = rw same at e

-- ---- n words, by the first

module _ (s : List ℕ) (at : ℕ) where
  pub words-none : (n : ℕ) → 0 < n → skip (gap s at) ≡ malformed → words n s at ≡ malformed
  unfolding words
  words-none zero l e = absurd (omega arith)
  words-none (suc n) l e = skip-fails _ _ e

  module _ {a : ℕ} (spaces : skip (gap s at) ≡ parsed tt a) where
    pub words-stop : (n : ℕ) → 0 < n → word s a ≡ malformed → words n s at ≡ malformed
    unfolding words
    words-stop zero l e = absurd (omega arith)
    words-stop (suc n) l e = skip-goes _ _ spaces (fails _ e)

    pub words-to : (n : ℕ) {w : List ℕ} {b : ℕ} → 0 < n → word s a ≡ parsed w b → words n s at ≡ words (n - 1) s b
    unfolding words
    words-to zero l e = absurd (omega arith)
    words-to (suc n) l e = skip-goes _ _ spaces (goes _ e (rw (sub-one (suc n))))
