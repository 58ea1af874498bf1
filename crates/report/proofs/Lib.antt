pub mod FilledSamples
pub mod Lines
pub mod SweepLines
pub mod Tunings
