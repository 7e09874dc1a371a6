-- The digits of a number, one after another.
--     Digits                                          the first of them
--     none_read, one_more                             none, and one more
--     too_many, no_digit, word-goes-on, word-ends     what they make of the number
use borrow.Author.Tests.{lt-ltb, le-leb, lt-leb, leb-true}
use mathlib.Core.Path.{◌≡◌, refl, sym, ◌∙◌}
use mathlib.Core.Bool.{Bool, true, false, and-eq-true_iff, true≢false}
use mathlib.Core.List.{List, [], ◌∷◌, ◌++◌}
use Prim.Native.Nat.{ℕ, suc, ◌+◌, ◌-◌, ◌*◌, ◌^◌, ◌≤◌, ◌<◌}
use native.Mathlib.Nat.{pow-suc, pow-le-pow_right}
use native.Mathlib.Numerals.{add-one}
use native.Mathlib.Decide.{dec_lt}
use native.Mathlib.Omega.{arith}
use lib.Dec.{leb}
use lib.ListN.{length, get_or, take, drop}
use lib.Seq.{take-suc}
use Rattle.std.specs.List.{prefix_len}
use Rattle.std.proofs.lemmas.List.Folds.{length-prefix_len}
use Rattle.std.proofs.lemmas.List.Sums.{prefix_len_stops}
use Rattle.mesh_format.specs.Words.{is_digit, value_from, most_digits}
use Rattle.mesh_format.specs.Parse.{malformed, parsed, run, digits_at, number}
use Rattle.mesh_format.proofs.RunLaws.{run-le}
use Rattle.mesh_words.specs.Class.{stands_at}
use Rattle.mesh_words.specs.declared.class.Class.TheVariants.{Word}
use Rattle.mesh_words.proofs.Runs.{run_is, stands-byte, run-each}

value_from-next : (v : ℕ) (digits : List ℕ) (d : ℕ) → value_from v (digits ++ (d ∷ [])) ≡ 10 * value_from v digits + (d - 48)
unfolding value_from
value_from-next v [] d = refl
value_from-next v (e ∷ digits) d = value_from-next (10 * v + (e - 48)) digits d

-- i bytes at the front of a list pass a test
module _ (test : ℕ → Bool) (s : List ℕ) (i : ℕ) (met : i ≤ run test s) where
  -- a byte that fails it ends the run
  ends_here : test (get_or s i 0) ≡ false → run test s ≡ i
  ends_here f = go (dec_lt i (run test s))
    where
      go : Dec (i < run test s) → run test s ≡ i
      go (yes l) = absurd (true≢false (sym (run-each test s i l) ∙ f))
      go (no n) = omega (arith, met)

  -- over one that passes it the run goes on
  goes_on : i < length s → test (get_or s i 0) ≡ true → i < run test s
  goes_on l e = go (dec_lt i (run test s))
    where
      go : Dec (i < run test s) → i < run test s
      go (yes m) = m
      go (no n) =
          let whole : prefix_len test s ≡ i = sym (length-prefix_len test s) ∙ run_is test s ∙ omega (arith, met) in
          let stops = prefix_len_stops test s 0 (rw whole l) in
          absurd (true≢false (sym e ∙ rw whole at stops))

-- the first i bytes are digits, at most nine, and make the value
pub record Digits (rest : List ℕ) (i value : ℕ) : Type 0 where
  pub few : i ≤ most_digits
  pub met : i ≤ run is_digit rest
  pub is : value ≡ value_from 0 (take i rest)
  pub small : value < 10 ^ i

pub none_read : (rest : List ℕ) → Digits rest 0 0
unfolding value_from
none_read rest = record { few = omega arith; met = omega arith; is = refl; small = omega arith }

-- byte i is a digit
module _ {rest : List ℕ} {i value : ℕ} (h : Digits rest i value) (l : i < length rest) (digit : is_digit (get_or rest i 0) ≡ true) where
  both : (leb 48 (get_or rest i 0) ≡ true) × (leb (get_or rest i 0) 57 ≡ true)
  both = (and-eq-true_iff (leb 48 (get_or rest i 0)) (leb (get_or rest i 0) 57)).0 digit

  pub least : 48 ≤ get_or rest i 0
  least = leb-true 48 (get_or rest i 0) both.0

  pub most : get_or rest i 0 ≤ 57
  most = leb-true (get_or rest i 0) 57 both.1

  pub below : i < most_digits → value < 10 ^ 8
  below m = omega (arith, h.small, pow-le-pow_right {n = 10} (omega arith) {i = i} {j = 8} (omega (arith, m)))

  pub one_more : i < most_digits → Digits rest (i + 1) (10 * value + (get_or rest i 0 - 48))
  one_more m = record {
    few = omega (arith, m);
    met = omega (arith, goes_on is_digit rest i h.met l digit);
    is = rw (add-one i, take-suc rest i 0 l, value_from-next 0 (take i rest) (get_or rest i 0), h.is);
    small = rw (add-one i, pow-suc 10 i) (omega (arith, h.small, least, most));
  }

-- .. the digits of the text s from position `at` on
module _ (s : List ℕ) (at : ℕ) {i value : ℕ} (h : Digits (drop at s) i value) where
  -- byte i is the tenth
  pub too_many : i < length (drop at s) → is_digit (get_or (drop at s) i 0) ≡ true → most_digits ≤ i → number s at ≡ malformed
  unfolding number digits_at
  too_many l digit m =
      let n : most_digits < run is_digit (drop at s) = omega (arith, m, goes_on is_digit (drop at s) i h.met l digit) in
      rw (lt-ltb 0 (run is_digit (drop at s)) (omega (arith, n)), lt-leb (run is_digit (drop at s)) most_digits n)

  -- none stands behind them
  module _ (all : run is_digit (drop at s) ≡ i) where
    pub no_digit : i ≡ 0 → number s at ≡ malformed
    unfolding number digits_at
    no_digit e = rw (all, e)

    module _ (some : 0 < i) where
      pub word-goes-on : stands_at Word s (at + i) ≡ true → number s at ≡ malformed
      unfolding number digits_at
      word-goes-on e = rw (all, lt-ltb 0 i some, le-leb i most_digits h.few, stands-byte Word s (at + i) 32 refl e)

      pub word-ends : stands_at Word s (at + i) ≡ false → number s at ≡ parsed value (at + i)
      unfolding number digits_at
      word-ends e = rw (all, lt-ltb 0 i some, le-leb i most_digits h.few, stands-byte Word s (at + i) 32 refl e, h.is)

  -- .. where the text ends, or byte i is none
  pub all-at_end : length (drop at s) ≤ i → run is_digit (drop at s) ≡ i
  all-at_end l = omega (arith, l, h.met, run-le is_digit (drop at s))

  pub all-at_other : is_digit (get_or (drop at s) i 0) ≡ false → run is_digit (drop at s) ≡ i
  all-at_other = ends_here is_digit (drop at s) i h.met
