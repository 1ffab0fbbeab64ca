mod ErrorLemmas
mod FoldLemmas
mod ItemLemmas
mod LiteralLemmas
mod OutcomeLemmas
mod SilenceLemmas
mod StayLemmas
