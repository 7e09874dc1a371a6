-- From what the sweeps promise to sheets and slices written out.
mod Cases
