-- Cases at the entry limit and beyond it, in the matrix and in each companion alone.
-- Written by tests/make_reduction_examples.py: the expected outcomes are those of the Python model of document 01, tests/model/reduction.py.
use Rattle.std.specs.Prelude.{List, [], ◌∷◌, pos}
use Rattle.reduction_steps.specs.Step.{done, wide}
use Rattle.reduction_examples.specs.Case.{Case, minus, alone, from_identities, bare}

abbrev pub limits : List Case
limits =
    -- at the limit
    from_identities 20 (alone 2 2)
    ((pos 1 ∷ pos 1 ∷ []) ∷ (minus 1 ∷ pos 19 ∷ []) ∷ [])
    (done 2 (bare 2 2 ((pos 1 ∷ pos 0 ∷ []) ∷ (pos 0 ∷ pos 20 ∷ []) ∷ []) 20))
    -- beyond the limit in the matrix
    ∷ from_identities 20 (alone 2 2) ((pos 1 ∷ pos 1 ∷ []) ∷ (minus 1 ∷ pos 20 ∷ []) ∷ []) wide
    -- at the limit below 0
    ∷ from_identities 20 (alone 2 2)
    ((pos 1 ∷ pos 1 ∷ []) ∷ (pos 1 ∷ minus 19 ∷ []) ∷ [])
    (done 2 (bare 2 2 ((pos 1 ∷ pos 0 ∷ []) ∷ (pos 0 ∷ pos 20 ∷ []) ∷ []) 20))
    -- beyond the limit below 0
    ∷ from_identities 20 (alone 2 2) ((pos 1 ∷ pos 1 ∷ []) ∷ (pos 1 ∷ minus 20 ∷ []) ∷ []) wide
    -- beyond the limit on the way alone
    ∷ from_identities 20 (alone 3 2) ((pos 1 ∷ pos 15 ∷ []) ∷ (minus 1 ∷ pos 10 ∷ []) ∷ (pos 0 ∷ pos 1 ∷ []) ∷ []) wide
    -- beyond the limit in the row follower
    ∷ from_identities 9 (record { rows = 3; columns = 1; row_follower = 3; row_inverse = 0; column_follower = 0; column_inverse = 0 })
    ((pos 9 ∷ []) ∷ (pos 6 ∷ []) ∷ (minus 7 ∷ []) ∷ [])
    wide
    -- the same matrix with the other companions
    ∷ from_identities 9 (record { rows = 3; columns = 1; row_follower = 0; row_inverse = 3; column_follower = 1; column_inverse = 1 })
    ((pos 9 ∷ []) ∷ (pos 6 ∷ []) ∷ (minus 7 ∷ []) ∷ [])
    (done 1 (record {
      matrix = (pos 1 ∷ []) ∷ (pos 0 ∷ []) ∷ (pos 0 ∷ []) ∷ [];
      row_follower = [] ∷ [] ∷ [] ∷ [];
      row_inverse = (pos 9 ∷ pos 6 ∷ minus 7 ∷ []) ∷ (pos 1 ∷ pos 1 ∷ minus 2 ∷ []) ∷ (pos 3 ∷ pos 2 ∷ minus 2 ∷ []) ∷ [];
      column_follower = (pos 1 ∷ []) ∷ [];
      column_inverse = (pos 1 ∷ []) ∷ [];
      peak = 9;
    }))
    -- beyond the limit in the inverse of the row follower
    ∷ from_identities 9 (record { rows = 4; columns = 1; row_follower = 0; row_inverse = 4; column_follower = 0; column_inverse = 0 })
    ((minus 5 ∷ []) ∷ (pos 0 ∷ []) ∷ (pos 6 ∷ []) ∷ (minus 6 ∷ []) ∷ [])
    wide
    -- the same matrix with the other companions
    ∷ from_identities 9 (record { rows = 4; columns = 1; row_follower = 4; row_inverse = 0; column_follower = 1; column_inverse = 1 })
    ((minus 5 ∷ []) ∷ (pos 0 ∷ []) ∷ (pos 6 ∷ []) ∷ (minus 6 ∷ []) ∷ [])
    (done 1 (record {
      matrix = (pos 1 ∷ []) ∷ (pos 0 ∷ []) ∷ (pos 0 ∷ []) ∷ (pos 0 ∷ []) ∷ [];
      row_follower = (pos 1 ∷ pos 0 ∷ pos 1 ∷ pos 0 ∷ []) ∷ (pos 0 ∷ pos 1 ∷ pos 0 ∷ pos 0 ∷ []) ∷ (minus 6 ∷ pos 0 ∷ minus 5 ∷ pos 0 ∷ []) ∷ (minus 6 ∷ pos 0 ∷ minus 4 ∷ pos 1 ∷ []) ∷ [];
      row_inverse = [] ∷ [] ∷ [] ∷ [] ∷ [];
      column_follower = (pos 1 ∷ []) ∷ [];
      column_inverse = (pos 1 ∷ []) ∷ [];
      peak = 6;
    }))
    -- beyond the limit in the column follower
    ∷ from_identities 9 (record { rows = 2; columns = 4; row_follower = 0; row_inverse = 0; column_follower = 4; column_inverse = 0 })
    ((minus 1 ∷ pos 9 ∷ pos 7 ∷ pos 0 ∷ []) ∷ (pos 0 ∷ minus 7 ∷ pos 0 ∷ minus 6 ∷ []) ∷ [])
    wide
    -- the same matrix with the other companions
    ∷ from_identities 9 (record { rows = 2; columns = 4; row_follower = 2; row_inverse = 2; column_follower = 0; column_inverse = 4 })
    ((minus 1 ∷ pos 9 ∷ pos 7 ∷ pos 0 ∷ []) ∷ (pos 0 ∷ minus 7 ∷ pos 0 ∷ minus 6 ∷ []) ∷ [])
    (done 2 (record {
      matrix = (pos 1 ∷ pos 0 ∷ pos 0 ∷ pos 0 ∷ []) ∷ (pos 0 ∷ pos 1 ∷ pos 0 ∷ pos 0 ∷ []) ∷ [];
      row_follower = (minus 1 ∷ pos 0 ∷ []) ∷ (pos 0 ∷ minus 1 ∷ []) ∷ [];
      row_inverse = (minus 1 ∷ pos 0 ∷ []) ∷ (pos 0 ∷ minus 1 ∷ []) ∷ [];
      column_follower = [] ∷ [] ∷ [] ∷ [] ∷ [];
      column_inverse = (pos 1 ∷ minus 9 ∷ minus 7 ∷ pos 0 ∷ []) ∷ (pos 0 ∷ pos 7 ∷ pos 0 ∷ pos 6 ∷ []) ∷ (pos 0 ∷ pos 0 ∷ pos 1 ∷ pos 0 ∷ []) ∷ (pos 0 ∷ pos 1 ∷ pos 0 ∷ pos 1 ∷ []) ∷ [];
      peak = 9;
    }))
    -- beyond the limit in the inverse of the column follower
    ∷ from_identities 9 (record { rows = 1; columns = 4; row_follower = 0; row_inverse = 0; column_follower = 0; column_inverse = 4 })
    ((pos 9 ∷ minus 9 ∷ pos 5 ∷ minus 6 ∷ []) ∷ [])
    wide
    -- the same matrix with the other companions
    ∷ from_identities 9 (record { rows = 1; columns = 4; row_follower = 1; row_inverse = 1; column_follower = 4; column_inverse = 0 })
    ((pos 9 ∷ minus 9 ∷ pos 5 ∷ minus 6 ∷ []) ∷ [])
    (done 1 (record {
      matrix = (pos 1 ∷ pos 0 ∷ pos 0 ∷ pos 0 ∷ []) ∷ [];
      row_follower = (pos 1 ∷ []) ∷ [];
      row_inverse = (pos 1 ∷ []) ∷ [];
      column_follower = (pos 0 ∷ pos 1 ∷ pos 2 ∷ pos 0 ∷ []) ∷ (pos 0 ∷ minus 5 ∷ minus 9 ∷ pos 0 ∷ []) ∷ (pos 1 ∷ minus 4 ∷ minus 9 ∷ pos 0 ∷ []) ∷ (pos 0 ∷ minus 4 ∷ minus 6 ∷ pos 1 ∷ []) ∷ [];
      column_inverse = [] ∷ [] ∷ [] ∷ [] ∷ [];
      peak = 9;
    }))
    ∷ []
