-- What the lists of many chains are written from, as bytes.
use Rattle.std.specs.Prelude.{◌≡◌, List, ℕ, ◌*◌, ◌≤◌, ◌<◌, length, ℤ}
use Rattle.limits.specs.Limits.{host_limit}
use Rattle.host_calls.specs.Bytes.{numbers_bytes, chain_from}
use Rattle.requests.specs.Chains.{chain_at}
use Rattle.writers.specs.Written.{CanCoordinate, coordinates_of}
use Rattle.two_reductions.specs.declared.reduced.Reduced.{Reduced}

-- chain i of the bytes
abbrev pub chain_of : ℕ → ℕ → List ℕ → ℕ → List ℤ
chain_of cells many chains i = chain_at cells (chain_from (many * cells) chains) i

-- the bytes of its coordinates
abbrev pub list_bytes : Reduced → List ℤ → ℕ → ℕ → List ℕ → ℕ → List ℕ
list_bytes x w cells many chains i = numbers_bytes (coordinates_of x w (chain_of cells many chains i))

pub record CanListBytes (x : Reduced) (w : List ℤ) (cells many : ℕ) (chains : List ℕ) (m : ℕ) : Type 0 where
  pub few : cells ≤ host_limit
  pub size : length chains ≡ 4 * (many * cells)
  pub room : 8 * (many * cells) ≤ m
  pub short : x.workspace.matrix.lines ≤ cells
  pub each : (i : ℕ) → i < many → CanCoordinate x w (chain_of cells many chains i) 0 host_limit
