use Rattle.std.proofs.Common.{◌≡◌, ◌∙◌, sym, ap, refl, rules, arith, ℕ, zero, suc, ◌+◌, ◌-◌, ◌*◌, ◌/◌, ◌%◌, ◌^◌, ◌≤◌, ◌<◌, List, ◌∷◌, ◌++◌, length, get_or, take, drop, drop-drop, ℤ, pos, negsuc, add-one, w64, of_z, to_z-of_z}
use Rattle.std.specs.Int.{bytes_low_first, to_le_bytes}
use Rattle.std.proofs.Math.Nat.{div-div-eq-div-mul, div-one, pow-suc}
use lib.Seq.{length-take-le, take-suc}
use borrow.Rule.Slice.PartMut.{put_mid}
use Rattle.lists.specs.Splice.{splice}
use Rattle.lists.specs.SpliceLaws.{splice-nil, splice-splice}
use Rattle.host_calls.specs.Bytes.{low_bytes, number_bytes, numbers_bytes}
use Rattle.host_calls.proofs.BytesLaws.{length-number_bytes, length-numbers_bytes, numbers_bytes-snoc}
use Rattle.little_endian.proofs.write_numbers.Goals as goal

-- ---- the eight bytes of a number

bytes_from : (k i n : ℕ) → bytes_low_first i k n ≡ low_bytes k (n / 256 ^ i)
unfolding low_bytes
bytes_from zero i n = refl
bytes_from (suc k) zero n = ap (λ (l : List ℕ). n % 256 ∷ l) (bytes_from k 1 n) ∙ ap (λ (m : ℕ). m % 256 ∷ low_bytes k (m / 256)) (sym (div-one n))
bytes_from (suc k) (suc i) n =
    ap (λ (l : List ℕ). n / 256 ^ suc i % 256 ∷ l)
    (bytes_from k (suc (suc i)) n ∙ ap (λ (m : ℕ). low_bytes k (n / m)) (pow-suc 256 (suc i)) ∙ ap (low_bytes k) (sym (div-div-eq-div-mul n (256 ^ suc i) 256)))

bytes_are : (x : ℤ) → to_le_bytes w64 (of_z w64 x) ≡ number_bytes x
unfolding number_bytes
bytes_are (pos n) = bytes_from 8 0 n ∙ ap (low_bytes 8) (div-one n)
bytes_are (negsuc n) = bytes_from 8 0 (2 ^ 64 - suc n) ∙ ap (low_bytes 8) (div-one (2 ^ 64 - suc n))

-- ---- the loop

-- what is put in the place of k bytes
put-splice : (at e k : ℕ) (l xs : List ℕ) → k ≡ length xs → e ≡ at → put_mid at k l xs ≡ splice e xs l
unfolding splice
put-splice at e k l xs h p = rw (p, drop-drop, h) (ap (λ (n : ℕ). take at l ++ (xs ++ drop n l)) (omega arith))

module _ (numbers : List ℤ) (at i : ℕ) (l l' : List ℕ) (more : i < length numbers) (room : at + 8 * length numbers ≤ length l)
    (h : l' ≡ splice at (numbers_bytes (take i numbers)) l) where
  one_more : (k : ℕ) → k ≡ 8 → (xs : List ℕ) → xs ≡ number_bytes (get_or numbers i (pos 0))
      → put_mid (at + 8 * i) k l' xs ≡ splice at (numbers_bytes (take (i + 1) numbers)) l
  one_more k eight xs e =
      put-splice (at + 8 * i) (at + length head) k l' xs (omega (arith, ap length e, length-number_bytes x)) (omega (arith, head-length))
      ∙ rw (h, e) (splice-splice at head l (omega arith) (number_bytes x))
      ∙ ap (λ (t : List ℕ). splice at t l) bytes
    where
      head : List ℕ
      head = numbers_bytes (take i numbers)

      x : ℤ
      x = get_or numbers i (pos 0)

      head-length : length head ≡ 8 * i
      head-length = omega (arith, length-numbers_bytes (take i numbers), length-take-le i numbers (omega arith))

      bytes : head ++ number_bytes x ≡ numbers_bytes (take (i + 1) numbers)
      bytes = sym (numbers_bytes-snoc (take i numbers) x) ∙ ap numbers_bytes (sym (take-suc numbers i (pos 0) more) ∙ ap (λ (n : ℕ). take n numbers) (sym (add-one i)))

pub loop-i-init : goal.loop-i-init
unfolding numbers_bytes
loop-i-init c = sym (splice-nil c.args.at c.args.out.now)

pub loop-i-preserved : goal.loop-i-preserved
loop-i-preserved c =
    let a = c.args in
    let x = get_or a.numbers.now c.loop-i.i (pos 0) in
    one_more a.numbers.now a.at c.loop-i.i a.out.now c.loop-i.out c.loop-i-test.true c.requires c.loop-i.invariant _ (omega arith) c.copy_from_slice.new.self
    (c.copy_from_slice.ensures.after ∙ c.to_le_bytes.ensures ∙ ap (λ (x : ℤ). to_le_bytes w64 (of_z w64 x)) (to_z-of_z {w = w64} {z = x} (search rules)) ∙ bytes_are x)
