-- What the proofs of the host calls share: from the library's report and surface calls to the host's (`Through`, `SurfaceThrough`), one chain of many (`ChainBytes`), and what the
-- host calls answer (`HostAnswering`, `HostListAnswers`).
mod Through
mod SurfaceThrough
mod ChainBytes
mod HostAnswering
mod HostListAnswers
