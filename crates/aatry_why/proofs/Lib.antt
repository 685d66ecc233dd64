mod AskerLemmas
