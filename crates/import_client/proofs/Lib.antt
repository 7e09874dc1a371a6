-- From what the imports promise to texts and slices written out.
mod Cases
