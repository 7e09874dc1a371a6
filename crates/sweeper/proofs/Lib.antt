-- Why marking the loose nodes and keeping the other cells is the sweep.
mod Marked
mod Sweeping
