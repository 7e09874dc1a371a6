-- Host calls on the hollow triangle, and the bytes that they leave: document 01, "The report and the coordinates"; document 02, Notes 1 and 6.
use Rattle.std.specs.Prelude.{List, [], ◌∷◌, ◌++◌, ℕ, replicate}
use Rattle.host_calls.specs.Host.{HostCalled}

-- what is asked of dimension p: the report, the coordinates of a chain in bytes, those of a number of chains, or the surface that a chain bounds
pub data HostRequest : Type 0 where
  report_of : HostRequest
  coordinates_of : List ℕ → HostRequest
  lists_of : ℕ → List ℕ → HostRequest
  surface_of : List ℕ → HostRequest

-- a call on the hollow triangle; `output` stands as it is lent
pub record HostCase : Type 0 where
  pub dimension : ℕ
  pub request : HostRequest
  pub output : List ℕ
  pub expected : HostCalled

-- n bytes as they are lent: a byte that is left untouched shows
abbrev nines : ℕ → List ℕ
nines n = replicate n 9

-- the chains (-1, 1, -1) and (-300, 300, -300)
abbrev loop : List ℕ
loop = 255 ∷ 255 ∷ 255 ∷ 255 ∷ 1 ∷ 0 ∷ 0 ∷ 0 ∷ 255 ∷ 255 ∷ 255 ∷ 255 ∷ []

abbrev many_loops : List ℕ
many_loops = 212 ∷ 254 ∷ 255 ∷ 255 ∷ 44 ∷ 1 ∷ 0 ∷ 0 ∷ 212 ∷ 254 ∷ 255 ∷ 255 ∷ []

-- the chains (1, 0, 0) and (32768, 0, 0)
abbrev open-chain : List ℕ
open-chain = 1 ∷ 0 ∷ 0 ∷ 0 ∷ 0 ∷ 0 ∷ 0 ∷ 0 ∷ 0 ∷ 0 ∷ 0 ∷ 0 ∷ []

abbrev wide-chain : List ℕ
wide-chain = 0 ∷ 128 ∷ 0 ∷ 0 ∷ 0 ∷ 0 ∷ 0 ∷ 0 ∷ 0 ∷ 0 ∷ 0 ∷ 0 ∷ []

-- the chains (13, -15, 2) and (16, -16, 0) of vertices
abbrev vertices : List ℕ
vertices = 13 ∷ 0 ∷ 0 ∷ 0 ∷ 241 ∷ 255 ∷ 255 ∷ 255 ∷ 2 ∷ 0 ∷ 0 ∷ 0 ∷ []

abbrev wide-vertices : List ℕ
wide-vertices = 16 ∷ 0 ∷ 0 ∷ 0 ∷ 240 ∷ 255 ∷ 255 ∷ 255 ∷ 0 ∷ 0 ∷ 0 ∷ 0 ∷ []

-- the call is refused with the number, and the output is left alone
abbrev refuses : ℕ → ℕ → HostRequest → List ℕ → HostCase
refuses number p request output = record { dimension = p; request = request; output = output; expected = record { number = number; output = output } }

abbrev pub host_cases : List HostCase
host_cases =
    -- the report 1, 0, 1, -1, 1 in an output of 14 slots and 3 bytes
    record {
      dimension = 1;
      request = report_of;
      output = nines 115;
      expected = record {
        number = 0;
        output =
            1 ∷ 0 ∷ 0 ∷ 0 ∷ 0 ∷ 0 ∷ 0 ∷ 0
            ∷ 0 ∷ 0 ∷ 0 ∷ 0 ∷ 0 ∷ 0 ∷ 0 ∷ 0
            ∷ 1 ∷ 0 ∷ 0 ∷ 0 ∷ 0 ∷ 0 ∷ 0 ∷ 0
            ∷ 255 ∷ 255 ∷ 255 ∷ 255 ∷ 255 ∷ 255 ∷ 255 ∷ 255
            ∷ 1 ∷ 0 ∷ 0 ∷ 0 ∷ 0 ∷ 0 ∷ 0 ∷ 0
            ∷ nines 75;
      };
    }
    -- the coordinate -1 in an output of 3 slots and 5 bytes
    ∷ record {
      dimension = 1;
      request = coordinates_of loop;
      output = nines 29;
      expected = record { number = 0; output = 255 ∷ 255 ∷ 255 ∷ 255 ∷ 255 ∷ 255 ∷ 255 ∷ 255 ∷ nines 21 };
    }
    -- the coordinate -300
    ∷ record {
      dimension = 1;
      request = coordinates_of many_loops;
      output = nines 24;
      expected = record { number = 0; output = 212 ∷ 254 ∷ 255 ∷ 255 ∷ 255 ∷ 255 ∷ 255 ∷ 255 ∷ nines 16 };
    }
    -- the coordinates -1 and -300 of two chains, in an output of 6 slots and 3 bytes
    ∷ record {
      dimension = 1;
      request = lists_of 2 (loop ++ many_loops);
      output = nines 51;
      expected = record {
        number = 0;
        output = 255 ∷ 255 ∷ 255 ∷ 255 ∷ 255 ∷ 255 ∷ 255 ∷ 255 ∷ (nines 16 ++ (212 ∷ 254 ∷ 255 ∷ 255 ∷ 255 ∷ 255 ∷ 255 ∷ 255 ∷ nines 19));
      };
    }
    -- no chains
    ∷ record { dimension = 1; request = lists_of 0 []; output = nines 5; expected = record { number = 0; output = nines 5 } }
    -- the edges -15, 2, 0 with the boundary (13, -15, 2), in an output of 3 slots and 5 bytes
    ∷ record {
      dimension = 0;
      request = surface_of vertices;
      output = nines 29;
      expected = record {
        number = 0;
        output =
            241 ∷ 255 ∷ 255 ∷ 255 ∷ 255 ∷ 255 ∷ 255 ∷ 255
            ∷ 2 ∷ 0 ∷ 0 ∷ 0 ∷ 0 ∷ 0 ∷ 0 ∷ 0
            ∷ 0 ∷ 0 ∷ 0 ∷ 0 ∷ 0 ∷ 0 ∷ 0 ∷ 0
            ∷ nines 5;
      };
    }
    -- the dimension exceeds 3
    ∷ refuses 8 4 report_of (nines 115)
    -- an incomplete number at the end of the output gives no slot
    ∷ refuses 9 1 report_of (nines 111)
    ∷ refuses 9 1 (coordinates_of loop) (nines 23)
    -- a chain of 11 bytes, and one of 13
    ∷ refuses 10 1 (coordinates_of (255 ∷ 255 ∷ 255 ∷ 255 ∷ 1 ∷ 0 ∷ 0 ∷ 0 ∷ 255 ∷ 255 ∷ 255 ∷ [])) (nines 24)
    ∷ refuses 10 1 (coordinates_of (loop ++ (0 ∷ []))) (nines 24)
    -- the coefficient 32768
    ∷ refuses 11 1 (coordinates_of wide-chain) (nines 24)
    -- the chain (1, 0, 0)
    ∷ refuses 12 1 (coordinates_of open-chain) (nines 24)
    -- many chains: a byte too few for the last list, a byte too many for the chains, and the first faulty chain
    ∷ refuses 9 1 (lists_of 2 (loop ++ many_loops)) (nines 47)
    ∷ refuses 10 1 (lists_of 2 (loop ++ (many_loops ++ (0 ∷ [])))) (nines 48)
    ∷ refuses 12 1 (lists_of 2 (open-chain ++ wide-chain)) (nines 48)
    ∷ refuses 11 1 (lists_of 2 (wide-chain ++ open-chain)) (nines 48)
    -- a surface: a byte too few for the last number, chains of 11 and 13 bytes, a byte where there are no cells, the coefficient 16, an open chain
    ∷ refuses 9 0 (surface_of vertices) (nines 23)
    ∷ refuses 10 0 (surface_of (13 ∷ 0 ∷ 0 ∷ 0 ∷ 241 ∷ 255 ∷ 255 ∷ 255 ∷ 2 ∷ 0 ∷ 0 ∷ [])) (nines 24)
    ∷ refuses 10 0 (surface_of (vertices ++ (0 ∷ []))) (nines 24)
    ∷ refuses 10 2 (surface_of (0 ∷ [])) (nines 3)
    ∷ refuses 11 0 (surface_of wide-vertices) (nines 24)
    ∷ refuses 12 1 (surface_of open-chain) (nines 5)
    -- the loop, and one vertex, bound nothing
    ∷ refuses 17 1 (surface_of loop) (nines 5)
    ∷ refuses 17 0 (surface_of open-chain) (nines 24)
    ∷ []
