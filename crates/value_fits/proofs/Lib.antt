mod FitEnds
mod Widened
