-- One chain of many, read from their bytes: `chain-stands`, `chain-read`, `chain_length`.
use mathlib.Core.Path.{◌≡◌, sym, ap, ◌∙◌}
use mathlib.Core.List.{List}
use Prim.Native.Nat.{ℕ, ◌+◌, ◌*◌, ◌≤◌, ◌<◌}
use native.Mathlib.Nat.{suc-mul, mul-le-mul_right}
use native.Mathlib.Omega.{arith}
use lib.ListN.{length}
use lib.IntN.{ℤ}
use Rattle.lists.specs.Tabulate.{tabulate}
use Rattle.host_calls.specs.Bytes.{chain_from, coefficient_in}
use Rattle.requests.proofs.ChainsLaws.{length-chain_at}
use Rattle.host_calls.proofs.HostChainsLaws.{length-chain_from, chain_at-bytes}
use Rattle.fildwuk.specs.Lists.{chain_of}

module _ (cells many : ℕ) (chains : List ℕ) (size : length chains ≡ 4 * (many * cells)) (i : ℕ) (next : i < many) where
  -- its bytes are there
  pub chain-stands : 4 * (i * cells + cells) ≤ length chains
  chain-stands = omega (arith, size, suc-mul i cells, mul-le-mul_right cells next)

  -- what `read_chain` read is the chain
  pub chain-read : {n : ℕ} → n ≡ cells → {l : List ℤ} → l ≡ tabulate n (λ j. coefficient_in chains (i * cells + j)) → l ≡ chain_of cells many chains i
  chain-read e h = h ∙ ap (λ (k : ℕ). tabulate k (λ j. coefficient_in chains (i * cells + j))) e ∙ sym (chain_at-bytes cells many chains size i next)

  pub chain_length : length (chain_of cells many chains i) ≡ cells
  chain_length = length-chain_at cells many (chain_from (many * cells) chains) (length-chain_from (many * cells) chains size) i next
