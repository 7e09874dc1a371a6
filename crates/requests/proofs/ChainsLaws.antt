-- The checks 10 to 12 of chains.
--     coefficients-iff            11 of one chain, coefficient by coefficient
--     chain-sized                 10 of one chain
--     length-chain_at, chain-part  one of many chains, and the part of a slice that it is
--     cycles-zero, cycles-told    11 and 12: none is told, or the first faulty chain decides
--     chains-sized, chains-zero   10 to 12
--     chains-late                 13 and 17 are none of them
--     cycles-no-cells             where there are no cells, no chain is at fault
use mathlib.Core.Path.{◌≡◌, refl, sym, ◌∙◌, ap}
use mathlib.Core.Logic.{◌↔◌, ◌≢◌}
use mathlib.Core.Bool.{Bool, true, false, not}
use mathlib.Core.List.{List, [], ◌∷◌}
use Prim.Native.Nat.{ℕ, zero, suc, ◌+◌, ◌*◌, ◌-◌, ◌≤◌, ◌<◌, zero-le}
use native.Mathlib.Nat.{suc-mul, mul-le-mul_right}
use native.Mathlib.Decide.{dec_lt}
use native.Mathlib.Omega.{arith}
use borrow.Author.Tests.{eqb-true, eq-eqb, ltb-false, le-ltb, not-false}
use lib.Dec.{eqb, ltb}
use lib.ListN.{length, get_or, take, drop, length-drop, get_or-eq_default}
use lib.Seq.{length-take-le}
use lib.IntN.{ℤ, pos, nat_abs}
use Rattle.matrices.specs.Sum.{sum}
use Rattle.matrices.specs.Vector.{apply}
use Rattle.complexes.specs.Complex.{Sections, count}
use Rattle.complexes.specs.Boundary.{count_below}
use Rattle.trials.specs.Trial.{first_refusal}
use Rattle.sheet_format.specs.Check.{some}
use Rattle.sheet_format.specs.CheckLaws.{some-false}
use Rattle.trials.proofs.FirstLaws.{absent, absent-append, or_else, first-zero, first-append}
use Rattle.requests.specs.Chains.{chain_at, coefficient_exceeds, boundary_not_zero, cycle_checks, chain_checks, cycles_checks, chains_checks, FirstFault}

-- the numbers of the late checks
pub data Late : ℕ → Type 0 where
  wide : Late 13
  bounds : Late 17

pub coefficients-iff : (limit : ℕ) (z : List ℤ) → (coefficient_exceeds limit z ≡ false) ↔ ((i : ℕ) → nat_abs (get_or z i (pos 0)) ≤ limit)
unfolding coefficient_exceeds
coefficients-iff limit z = (forward, backward)
  where
    exceeds : ℕ → Bool
    exceeds i = ltb limit (nat_abs (get_or z i (pos 0)))

    at : ((i : ℕ) → i < length z → exceeds i ≡ false) → (i : ℕ) → Dec (i < length z) → nat_abs (get_or z i (pos 0)) ≤ limit
    at h i (yes l) = ltb-false limit (nat_abs (get_or z i (pos 0))) (h i l)
    at h i (no l) = rw (get_or-eq_default z (pos 0) {n = i} (omega arith)) zero-le

    forward : some (length z) exceeds ≡ false → (i : ℕ) → nat_abs (get_or z i (pos 0)) ≤ limit
    forward e i = at ((some-false (length z) exceeds).0 e) i (dec_lt i (length z))

    backward : ((i : ℕ) → nat_abs (get_or z i (pos 0)) ≤ limit) → some (length z) exceeds ≡ false
    backward h = (some-false (length z) exceeds).1 (λ i l. le-ltb limit (nat_abs (get_or z i (pos 0))) (h i))

-- a chain that passes 10 to 12 has n_p coefficients
pub chain-sized : (limit : ℕ) (K : Sections) (p : ℕ) (z : List ℤ) → first_refusal (chain_checks limit K p z) ≡ 0 → length z ≡ count K p
unfolding chain_checks
chain-sized limit K p z e =
    let (size, _) = (first-zero (chain_checks limit K p z) refl).0 e in
    eqb-true (length z) (count K p) (not-false (eqb (length z) (count K p)) size)

-- ---- many chains

module _ (n many : ℕ) (chains : List ℤ) (size : length chains ≡ many * n) where
  -- chain i stands in the slice
  pub chain-inside : (i : ℕ) → i < many → i * n + n ≤ length chains
  chain-inside i l = omega (arith, size, suc-mul i n, mul-le-mul_right n l)

  pub length-chain_at : (i : ℕ) → i < many → length (chain_at n chains i) ≡ n
  length-chain_at i l = length-take-le n (drop (i * n) chains) (omega (arith, length-drop (i * n) chains, chain-inside i l))

-- the part of the slice that a loop lends for it
pub chain-part : (n i : ℕ) (chains : List ℤ) → take (i * n + n - i * n) (drop (i * n) chains) ≡ chain_at n chains i
chain-part n i chains = ap (λ (m : ℕ). take m (drop (i * n) chains)) whole
  where
    whole : i * n + n - i * n ≡ n
    whole = omega arith

-- no fault so far, nor at the next
pub passed-next : {fault : ℕ → ℕ} (i : ℕ) → ((k : ℕ) → k < i → fault k ≡ 0) → fault i ≡ 0 → (k : ℕ) → k < i + 1 → fault k ≡ 0
passed-next {fault} i before now k l = go (dec_lt k i)
  where
    go : Dec (k < i) → fault k ≡ 0
    go (yes h) = before k h
    go (no h) = let last : k ≡ i = omega arith in ap fault last ∙ now

module _ (limit : ℕ) (K : Sections) (p : ℕ) (chains : List ℤ) where
  -- the first of 11 and 12 that chain i is at fault with
  abbrev pub fault : ℕ → ℕ
  fault i = first_refusal (cycle_checks limit K p (chain_at (count K p) chains i))

  cycles-absent : (k : ℕ) → absent k ((11, false) ∷ (12, false) ∷ []) ≡ true → (many : ℕ) → absent k (cycles_checks limit K p many chains) ≡ true
  unfolding cycles_checks
  cycles-absent k none zero = refl
  cycles-absent k none (suc i) =
      absent-append k (cycles_checks limit K p i chains) (cycle_checks limit K p (chain_at (count K p) chains i)) (cycles-absent k none i) none

  -- one chain more
  cycles-next : (i : ℕ) → first_refusal (cycles_checks limit K p (suc i) chains) ≡ or_else (first_refusal (cycles_checks limit K p i chains)) (fault i)
  unfolding cycles_checks
  cycles-next i = first-append (cycles_checks limit K p i chains) (cycle_checks limit K p (chain_at (count K p) chains i)) (cycles-absent 0 refl i)

  pub cycles-passed : (many : ℕ) → ((i : ℕ) → i < many → fault i ≡ 0) → first_refusal (cycles_checks limit K p many chains) ≡ 0
  unfolding cycles_checks
  cycles-passed zero h = refl
  cycles-passed (suc m) h = cycles-next m ∙ rw (cycles-passed m (λ i l. h i (omega arith)), h m (omega arith))

  -- the number of the first faulty chain is told
  pub cycles-decided : (many k : ℕ) → k ≢ 0 → FirstFault fault many k → first_refusal (cycles_checks limit K p many chains) ≡ k
  cycles-decided zero k d f = absurd (omega (arith, f.within))
  cycles-decided (suc m) k d f = cycles-next m ∙ go (dec_lt f.place m) (cycles-decided m k d)
    where
      now : (n : ℕ) → n ≡ k → or_else n (fault m) ≡ k
      now zero e = absurd (d (sym e))
      now (suc n) e = e

      go : Dec (f.place < m) → (FirstFault fault m k → first_refusal (cycles_checks limit K p m chains) ≡ k) → or_else (first_refusal (cycles_checks limit K p m chains)) (fault m) ≡ k
      go (yes l) before = now (first_refusal (cycles_checks limit K p m chains)) (before (record { place = f.place; within = l; told = f.told; earlier = f.earlier }))
      go (no l) before =
          let last : f.place ≡ m = omega (arith, f.within) in
          rw (cycles-passed m (λ i h. f.earlier i (omega arith))) (ap fault (sym last) ∙ f.told)

  -- the first faulty chain, or none
  data Found (many : ℕ) : Type 0 where
    none : ((i : ℕ) → i < many → fault i ≡ 0) → Found many
    found : (k : ℕ) → k ≢ 0 → FirstFault fault many k → Found many

  find : (many : ℕ) → Found many
  find zero = none (λ i l. absurd (omega arith))
  find (suc m) = go (find m) (fault m) refl
    where
      go : Found m → (k : ℕ) → fault m ≡ k → Found (suc m)
      go (found k d f) j e = found k d (record { place = f.place; within = omega (arith, f.within); told = f.told; earlier = f.earlier })
      go (none h) zero e = none (λ i l. at i (dec_lt i m) l)
        where
          at : (i : ℕ) → Dec (i < m) → i < suc m → fault i ≡ 0
          at i (yes l) q = h i l
          at i (no l) q = let last : i ≡ m = omega arith in ap fault last ∙ e
      go (none h) (suc k) e = found (suc k) (λ z. absurd (omega arith)) (record { place = m; within = omega arith; told = e; earlier = h })

  pub cycles-zero : (many : ℕ) → (first_refusal (cycles_checks limit K p many chains) ≡ 0) ↔ ((i : ℕ) → i < many → fault i ≡ 0)
  cycles-zero many = (go (find many), cycles-passed many)
    where
      go : Found many → first_refusal (cycles_checks limit K p many chains) ≡ 0 → (i : ℕ) → i < many → fault i ≡ 0
      go (none h) e = h
      go (found k d f) e = absurd (d (sym (cycles-decided many k d f) ∙ e))

  pub cycles-told : (many k : ℕ) → k ≢ 0 → (first_refusal (cycles_checks limit K p many chains) ≡ k) ↔ FirstFault fault many k
  cycles-told many k d = (go (find many), cycles-decided many k d)
    where
      go : Found many → first_refusal (cycles_checks limit K p many chains) ≡ k → FirstFault fault many k
      go (none h) e = absurd (d (sym e ∙ cycles-passed many h))
      go (found j q f) e = rw (sym (cycles-decided many j q f) ∙ e) at f

  -- the coefficients of a chain that is not at fault
  pub fault-small : (i : ℕ) → fault i ≡ 0 → (j : ℕ) → nat_abs (get_or (chain_at (count K p) chains i) j (pos 0)) ≤ limit
  fault-small i e =
      let (narrow, _) = (first-zero (cycle_checks limit K p (chain_at (count K p) chains i)) refl).0 e in
      (coefficients-iff limit (chain_at (count K p) chains i)).0 narrow

  -- ---- with 10 before them

  pub chains-late : {k : ℕ} → Late k → (many : ℕ) → absent k (chains_checks limit K p many chains) ≡ true
  unfolding chains_checks
  chains-late wide many = cycles-absent 13 refl many
  chains-late bounds many = cycles-absent 17 refl many

  pub chains-sized : (many : ℕ) → length chains ≡ many * count K p → first_refusal (chains_checks limit K p many chains) ≡ first_refusal (cycles_checks limit K p many chains)
  unfolding chains_checks
  chains-sized many e = rw (eq-eqb (length chains) (many * count K p) e)

  pub chains-zero : (many : ℕ)
      → (first_refusal (chains_checks limit K p many chains) ≡ 0) ↔ ((length chains ≡ many * count K p) × ((i : ℕ) → i < many → fault i ≡ 0))
  unfolding chains_checks
  chains-zero many = (forward, λ h. chains-sized many h.0 ∙ cycles-passed many h.1)
    where
      size : Bool
      size = eqb (length chains) (many * count K p)

      go : (t : Bool) → size ≡ t → first_refusal ((10, not t) ∷ cycles_checks limit K p many chains) ≡ 0
          → (length chains ≡ many * count K p) × ((i : ℕ) → i < many → fault i ≡ 0)
      go true e h = (eqb-true (length chains) (many * count K p) e, (cycles-zero many).0 h)
      go false e h = absurd (omega (arith, h))

      forward : first_refusal (chains_checks limit K p many chains) ≡ 0 → (length chains ≡ many * count K p) × ((i : ℕ) → i < many → fault i ≡ 0)
      forward h = go size refl h

  -- ---- no cells

  module _ (empty : count K p ≡ 0) where
    fault-no-cells : (i : ℕ) → fault i ≡ 0
    unfolding coefficient_exceeds boundary_not_zero apply sum some
    fault-no-cells i = rw (empty, (some-false (count_below K p) _).1 (λ j l. refl))

    pub cycles-no-cells : (many : ℕ) → first_refusal (cycles_checks limit K p many chains) ≡ 0
    cycles-no-cells many = cycles-passed many (λ i l. fault-no-cells i)
