-- Chains of the host calls, read from bytes.
--     chain_from-whole, length-chain_from, chain_from-other,
--     chain_from-size                                        the bytes of m coefficients, and other bytes
--     chain_at-bytes, chain_at-coefficient                    one of many chains
--     given-coefficient                                     the coefficients of a single one
use mathlib.Core.Path.{◌≡◌, sym, ◌∙◌, ap}
use mathlib.Core.Logic.{◌≢◌}
use mathlib.Core.List.{List}
use Prim.Native.Nat.{ℕ, zero, suc, ◌+◌, ◌*◌, ◌<◌}
use native.Mathlib.Decide.{ℕ_discrete}
use native.Mathlib.Omega.{arith}
use borrow.Author.Tests.{eq-eqb, ne_eqb}
use lib.ListN.{length, get_or, drop}
use lib.Seq.{ext_get_or, get_or-take, get_or-drop}
use lib.IntN.{ℤ, pos}
use Rattle.lists.specs.Tabulate.{tabulate}
use Rattle.lists.proofs.TabulateLaws.{length-tabulate, get_or-tabulate}
use Rattle.host_calls.specs.Bytes.{coefficient_in, other_length, chain_from}
use Rattle.requests.specs.Chains.{chain_at}
use Rattle.requests.proofs.ChainsLaws.{chain-inside, length-chain_at}

module _ (m : ℕ) (chains : List ℕ) where
  pub chain_from-whole : length chains ≡ 4 * m → chain_from m chains ≡ tabulate m (λ i. coefficient_in chains i)
  unfolding chain_from
  chain_from-whole e = rw (eq-eqb (length chains) (4 * m) e)

  pub length-chain_from : length chains ≡ 4 * m → length (chain_from m chains) ≡ m
  length-chain_from e = ap length (chain_from-whole e) ∙ length-tabulate m (λ i. coefficient_in chains i)

  -- other bytes stand for a chain of another length
  pub chain_from-other : length chains ≢ 4 * m → length (chain_from m chains) ≢ m
  unfolding chain_from other_length
  chain_from-other d = rw (ne_eqb (length chains) (4 * m) d) (other m)
    where
      other : (k : ℕ) → length (other_length k) ≢ k
      other zero h = absurd (omega arith)
      other (suc k) h = absurd (omega arith)

  pub chain_from-size : length (chain_from m chains) ≡ m → length chains ≡ 4 * m
  chain_from-size e = go (ℕ_discrete (length chains) (4 * m))
    where
      go : Dec (length chains ≡ 4 * m) → length chains ≡ 4 * m
      go (yes h) = h
      go (no d) = absurd (chain_from-other d e)

module _ (n many : ℕ) (chains : List ℕ) (size : length chains ≡ 4 * (many * n)) where
  -- the coefficients of all chains
  abbrev whole : List ℤ
  whole = chain_from (many * n) chains

  pub chain_at-bytes : (i : ℕ) → i < many → chain_at n whole i ≡ tabulate n (λ j. coefficient_in chains (i * n + j))
  chain_at-bytes i l =
      ext_get_or (pos 0) (chain_at n whole i) (tabulate n (λ j. coefficient_in chains (i * n + j)))
      (long ∙ sym (length-tabulate n (λ j. coefficient_in chains (i * n + j))))
      (λ j b.
      get_or-take n (drop (i * n) whole) j (pos 0) (omega (arith, long))
      ∙ get_or-drop (i * n) whole j (pos 0)
      ∙ ap (λ (z : List ℤ). get_or z (i * n + j) (pos 0)) (chain_from-whole (many * n) chains size)
      ∙ get_or-tabulate (many * n) (λ k. coefficient_in chains k) (i * n + j) (pos 0) (omega (arith, long, chain-inside n many whole (length-chain_from (many * n) chains size) i l, length-chain_from (many * n) chains size))
      ∙ sym (get_or-tabulate n (λ k. coefficient_in chains (i * n + k)) j (pos 0) (omega (arith, long))))
    where
      long : length (chain_at n whole i) ≡ n
      long = length-chain_at n many whole (length-chain_from (many * n) chains size) i l

  -- coefficient j of chain i
  pub chain_at-coefficient : (i : ℕ) → i < many → (j : ℕ) → j < n → get_or (chain_at n whole i) j (pos 0) ≡ coefficient_in chains (i * n + j)
  chain_at-coefficient i l j m =
      ap (λ (z : List ℤ). get_or z j (pos 0)) (chain_at-bytes i l) ∙ get_or-tabulate n (λ k. coefficient_in chains (i * n + k)) j (pos 0) m

-- a chain of n coefficients has those that its bytes give
pub given-coefficient : (n : ℕ) (chain : List ℕ) → length (chain_from n chain) ≡ n → (i : ℕ) → i < n → get_or (chain_from n chain) i (pos 0) ≡ coefficient_in chain i
given-coefficient n chain e i l =
    ap (λ (z : List ℤ). get_or z i (pos 0)) (chain_from-whole n chain (chain_from-size n chain e)) ∙ get_or-tabulate n (λ k. coefficient_in chain k) i (pos 0) l
