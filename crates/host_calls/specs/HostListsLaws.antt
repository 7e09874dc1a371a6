-- The host's call on many chains beside that on one chain, and on none.
--     host-one-chain         the call on one chain is the single call
--     host-no-cells          where the dimension has no cells, any number of chains is as none
--     nonempty-host-lists    the call on the chains that have coefficients is the call on all
use Rattle.std.specs.Prelude.{◌≡◌, refl, List, [], ℕ, zero, suc, ◌*◌, ℤ}
use Rattle.std.proofs.Common.{◌∙◌, ap, one-mul, mul-zero}
use Rattle.limits.specs.Limits.{host_limit}
use Rattle.lists.specs.Splice.{splices}
use Rattle.lists.proofs.SplicesLaws.{splices-same, splices-nothing}
use Rattle.requests.specs.Question.{Question, cells, cell_count, two}
use Rattle.requests.specs.Call.{coordinates, lists, numbers_of, work_slots, call_with}
use Rattle.requests.specs.Chains.{nonempty}
use Rattle.requests.proofs.CallLaws.{no_ending}
use Rattle.reports.specs.Reductions.{no_transforms}
use Rattle.requests.proofs.ListsLaws.{same-with, one-early, one-numbers, none-early, none-numbers}
use Rattle.host_calls.specs.Bytes.{numbers_bytes, chain_from}
use Rattle.host_calls.specs.Host.{slots_in, host_early, bytes_left, host_answer, host_call, coordinates_in, lists_in}

pub host-one-chain : (q : Question) (chain output : List ℕ) → host_call q (lists_in q 1 chain) output ≡ host_call q (coordinates_in q chain) output
unfolding host_call
host-one-chain q chain output = ap (λ (m : ℕ). host_call q (lists 1 (chain_from m chain)) output) (one-mul (cell_count q)) ∙ single
  where
    z : List ℤ
    z = chain_from (cell_count q) chain

    single : host_call q (lists 1 z) output ≡ host_call q (coordinates z) output
    single =
        ap host_answer (same-with (host_early q (lists 1 z) output) no_ending (two q no_transforms) (bytes_left q (lists 1 z) output) (bytes_left q (coordinates z) output) output []
        (λ e s r x d. splices-same (8 * cell_count q) (λ i. numbers_bytes (numbers_of q (lists 1 z) s r x i)) (λ i. numbers_bytes (numbers_of q (coordinates z) s r x i)) 1 output
        (λ i l. ap numbers_bytes (one-numbers host_limit q z (slots_in output) (work_slots (cells q) q.dimension) e s r x i l))))
        ∙ ap (λ (early : ℕ). host_answer (call_with early no_ending (two q no_transforms) (bytes_left q (coordinates z) output) output []))
        (one-early host_limit q z (slots_in output) (work_slots (cells q) q.dimension))

pub host-no-cells : (q : Question) → cell_count q ≡ 0 → (many : ℕ) (chains output : List ℕ) → host_call q (lists_in q many chains) output ≡ host_call q (lists_in q 0 chains) output
unfolding host_call splices numbers_bytes
host-no-cells q empty many chains output =
    ap (λ (m : ℕ). host_call q (lists many (chain_from m chains)) output) none
    ∙ ap host_answer (same-with (host_early q (lists many z) output) no_ending (two q no_transforms) (bytes_left q (lists many z) output) (λ s r x. output) output []
    (λ e s r x d. splices-nothing (8 * cell_count q) (λ i. numbers_bytes (numbers_of q (lists many z) s r x i)) many output
    (λ i l. ap numbers_bytes (none-numbers q empty s r x d many z i))))
    ∙ ap (λ (early : ℕ). host_answer (call_with early no_ending (two q no_transforms) (λ s r x. output) output []))
    (none-early q empty host_limit many (slots_in output) (work_slots (cells q) q.dimension) z)
  where
    none : many * cell_count q ≡ 0 * cell_count q
    none = rw empty (mul-zero many)

    z : List ℤ
    z = chain_from (0 * cell_count q) chains

pub nonempty-host-lists : (q : Question) (many : ℕ) (chains output : List ℕ)
    → host_call q (lists_in q many chains) output ≡ host_call q (lists_in q (nonempty many (cell_count q)) chains) output
nonempty-host-lists q many chains output = go (cell_count q) refl
  where
    go : (n : ℕ) → cell_count q ≡ n → host_call q (lists_in q many chains) output ≡ host_call q (lists_in q (nonempty many n) chains) output
    go zero e = host-no-cells q e many chains output
    go (suc n) e = refl
