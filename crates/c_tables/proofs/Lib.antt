mod GlobalLemmas
