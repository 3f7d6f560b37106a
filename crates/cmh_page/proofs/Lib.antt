mod FateLemmas
mod HeldLemmas
mod MomentLemmas
