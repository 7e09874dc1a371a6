-- The claim on the host calls.
use Rattle.answers.proofs.HostRight.{carries}
use Rattle.demands.specs.Host.{HostCalls}

pub host_calls : HostCalls
host_calls = carries
