mod StrideLemmas
mod PlaceLemmas
mod LeadLemmas
mod WindowLemmas
mod SlackLemmas
mod KeptLemmas
