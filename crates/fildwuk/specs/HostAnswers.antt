-- What the host calls answer and leave, in the words of the definitions of crate `host_calls`.
use Rattle.std.specs.Prelude.{◌≡◌, List, ℕ}
use Rattle.host_calls.specs.Host.{HostCalled}

-- the definition's call has this number and leaves this output
pub record HostAnswers (called : HostCalled) (r : ℕ) (output : List ℕ) : Type 0 where
  pub is : called ≡ record { number = r; output = output }
