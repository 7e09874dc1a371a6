-- From what the calls promise to what they answer and leave on the hollow and the filled triangle.
mod Hollow
mod Surfaces
mod Cases
