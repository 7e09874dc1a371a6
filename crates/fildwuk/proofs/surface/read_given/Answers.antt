-- `surface::read_given` meets its contract: bytes that are no chain of at most 48 coefficients are given a length that no dimension has.
use mathlib.Core.Path.{◌≡◌, sym, ◌∙◌, ap}
use mathlib.Core.Logic.{◌≢◌, ◌⊎◌, inl, inr}
use mathlib.Core.List.{List}
use Prim.Native.Nat.{ℕ, ◌+◌, ◌*◌, ◌/◌, ◌≤◌, ◌<◌}
use native.Mathlib.Nat.{zero-add}
use native.Mathlib.Decide.{ℕ_discrete}
use native.Mathlib.Omega.{arith}
use lib.ListN.{length, take, drop, length-append}
use lib.Seq.{length-take-le}
use lib.IntN.{ℤ}
use Rattle.lists.specs.Tabulate.{tabulate}
use Rattle.lists.proofs.TabulateLaws.{tabulate-ext}
use Rattle.host_calls.specs.Bytes.{coefficient_in, chain_from}
use Rattle.host_calls.proofs.HostChainsLaws.{chain_from-whole}
use Rattle.limits.specs.Limits.{host_limit}
use Rattle.std.proofs.Common.{take_at}
use Rattle.fildwuk.proofs.surface.read_given.Goals as goal
use Rattle.fildwuk.proofs.surface.read_given.Goals.{Joined-then-n-gt-CELLS, then-n-gt-CELLS-via-then-n-gt-CELLS, then-n-gt-CELLS-via-else-n-gt-CELLS+then-chain-n}

-- four times the quotient is at most the length, and less than four more
parts : (m : ℕ) → (4 * (m / 4) ≤ m) × (m < 4 * (m / 4) + 4)
parts m = (omega arith, omega arith)

-- bytes that are refused are no chain
no-chain : (c : Joined-then-n-gt-CELLS) → (n : ℕ) → n ≤ host_limit → length c.args.chain.now ≢ 4 * n
no-chain c n few e =
    let chain = c.args.chain.now in
    elim c.then-n-gt-CELLS.branch [
      | then-n-gt-CELLS-via-then-n-gt-CELLS w ↦ absurd (omega (arith, e, parts (length chain), w.if-n-gt-CELLS.true))
      | then-n-gt-CELLS-via-else-n-gt-CELLS+then-chain-n w ↦ w.if-chain-n.true (omega (arith, e, parts (length chain)))
    ]

pub returns-then-n-gt-CELLS : goal.returns-then-n-gt-CELLS
returns-then-n-gt-CELLS c = record { fits = omega arith; stands = λ n few. inr (λ e. absurd (omega (arith, e)), no-chain c n few) }

-- what is read is the chain, and no chain of another length
read : (chain : List ℕ) (l : List ℤ) (r m : ℕ) → length chain ≡ 4 * r → m ≡ r → l ≡ tabulate m (λ i. coefficient_in chain (0 + i)) → (n : ℕ)
    → (l ≡ chain_from n chain) ⊎ ((r ≢ n) × (length chain ≢ 4 * n))
read chain l r m size many is n = go (ℕ_discrete r n)
  where
    go : Dec (r ≡ n) → (l ≡ chain_from n chain) ⊎ ((r ≢ n) × (length chain ≢ 4 * n))
    go (yes e) =
        inl (
        is
        ∙ ap (λ (k : ℕ). tabulate k (λ i. coefficient_in chain (0 + i))) many
        ∙ tabulate-ext r (λ i. coefficient_in chain (0 + i)) (λ i. coefficient_in chain i) (λ i l. ap (coefficient_in chain) (zero-add i))
        ∙ sym (chain_from-whole r chain size)
        ∙ ap (λ k. chain_from k chain) e
        )
    go (no d) = inr (d, λ e. d (omega (arith, e, size)))

pub returns : goal.returns
returns c =
    let chain = c.args.chain.now in
    let n = length chain / 4 in
    let part = c.read_chain.new.coefficients in
    let rest = drop n c.args.coefficients.now in
    let lent : length (take n c.args.coefficients.now) ≡ n = length-take-le n c.args.coefficients.now (omega (arith, c.if-n-gt-CELLS.false)) in
    let whole : length part ≡ n = c.read_chain.auto.coefficients ∙ lent in
    record {
      fits = omega (arith, whole, length-append part rest);
      stands = λ k few. rw (take_at part rest n whole) (read chain part n (length (take n c.args.coefficients.now)) c.if-chain-n.false lent c.read_chain.ensures k);
    }
