-- Runs of bytes of one class, byte by byte.
--     run_is                   a run, in the words of std
--     stands-true              where a byte of the class stands
--     stands-byte              .. as a test of the byte there
--     run-inside, run-below    where a run ends
use mathlib.Core.Path.{◌≡◌, refl, ◌∙◌}
use mathlib.Core.Bool.{Bool, true, false, and-eq-true_iff}
use mathlib.Core.List.{List, [], ◌∷◌}
use Prim.Native.Nat.{ℕ, suc, ◌+◌, ◌≤◌, ◌<◌}
use native.Mathlib.Decide.{dec_lt}
use native.Mathlib.Numerals.{one-add}
use native.Mathlib.Omega.{arith}
use borrow.Author.Tests.{ltb-true, lt-ltb, le-ltb}
use lib.Dec.{ltb}
use lib.ListN.{length, get_or, drop, get_or-eq_default, length-drop}
use lib.Seq.{drop-cons}
use Rattle.std.specs.List.{prefix_len, take_while}
use Rattle.std.proofs.lemmas.List.Folds.{length-prefix_len}
use Rattle.std.proofs.lemmas.List.Sums.{prefix_len_passes}
use Rattle.mesh_format.specs.Parse.{run}
use Rattle.mesh_format.proofs.RunLaws.{run-le}
use Rattle.mesh_words.specs.Class.{in_class, stands_at}
use Rattle.mesh_words.specs.declared.class.Class.{Class}

pub run_is : (test : ℕ → Bool) (s : List ℕ) → length (take_while test s) ≡ run test s
unfolding run
run_is test s = length-prefix_len test s ∙ go s
  where
    go : (u : List ℕ) → prefix_len test u ≡ run test u
    go [] = refl
    go (b ∷ u) = rw (go u, one-add (run test u))

module _ (class : Class) (s : List ℕ) (at : ℕ) where
  pub stands-true : stands_at class s at ≡ true → (at < length s) × (in_class class (get_or s at 0) ≡ true)
  unfolding stands_at
  stands-true e =
      let h = (and-eq-true_iff (ltb at (length s)) (in_class class (get_or s at 0))).0 e in
      (ltb-true at (length s) h.0, h.1)

  -- past the end of the text stands a byte d of another class
  pub stands-byte : (d : ℕ) → in_class class d ≡ false → {b : Bool} → stands_at class s at ≡ b → in_class class (get_or s at d) ≡ b
  unfolding stands_at
  stands-byte d e {b} f = go (dec_lt at (length s))
    where
      go : Dec (at < length s) → in_class class (get_or s at d) ≡ b
      go (yes l) =
          let same : get_or s at d ≡ get_or s at 0 = cc (drop-cons s at 0 l, drop-cons s at d l) in
          rw same (rw (lt-ltb at (length s) l) at f)
      go (no l) = rw (get_or-eq_default s d {n = at} (omega arith), e) (rw (le-ltb at (length s) (omega arith)) at f)

  -- a run ends in the text, if it is not empty
  pub run-inside : (0 < run (in_class class) (drop at s)) → at + run (in_class class) (drop at s) ≤ length s
  run-inside l = omega (arith, length-drop at s, run-le (in_class class) (drop at s))

  pub run-below : (bound : ℕ) → at < bound → length s < bound → at + run (in_class class) (drop at s) < bound
  run-below bound l m = omega (arith, length-drop at s, run-le (in_class class) (drop at s))

-- a byte of each run is of its class
pub run-each : (test : ℕ → Bool) (s : List ℕ) (i : ℕ) → i < run test s → test (get_or s i 0) ≡ true
run-each test s i l = prefix_len_passes test s i 0 (omega (arith, length-prefix_len test s, run_is test s))

-- .. and where none stands, the next byte is of another
pub run-stops : (test : ℕ → Bool) → test 0 ≡ false → (s : List ℕ) → run test s ≡ 0 → test (get_or s 0 0) ≡ false
unfolding run
run-stops test o [] e = o
run-stops test o (b ∷ s) e = go (test b) refl
  where
    go : (t : Bool) → test b ≡ t → test b ≡ false
    go true f = absurd (let z : suc (run test s) ≡ 0 = rw f at e in omega arith)
    go false f = f
