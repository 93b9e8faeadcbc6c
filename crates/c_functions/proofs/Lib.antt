mod KindLemmas
mod NumberLemmas
