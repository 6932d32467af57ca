mod DriveLemmas
mod LeastLemmas
mod PatienceLemmas
