-- Memory models by their rules.
use Rattle.std.specs.Prelude.{true, false, List, [], ◌∷◌}
use Rattle.memory_models.specs.declared.kinds.Kinds.{Kinds}
use Rattle.memory_models.specs.declared.kinds.Rule.{Rule}

-- all kinds of operations
abbrev pub all_kinds : Kinds
all_kinds = record { load = true; store = true; atomic = true; fence = true }

-- all but stores
abbrev pub but_stores : Kinds
but_stores = record { load = true; store = false; atomic = true; fence = true }

-- all but loads
abbrev pub but_loads : Kinds
but_loads = record { load = false; store = true; atomic = true; fence = true }

-- all that have a word
abbrev pub but_fences : Kinds
but_fences = record { load = true; store = true; atomic = true; fence = false }

-- fences alone
abbrev pub fences : Kinds
fences = record { load = false; store = false; atomic = false; fence = true }

-- sequential consistency: all operations of a processor stay in their order (Lamport 1979)
abbrev pub sequential : List Rule
sequential = record { from = all_kinds; to = all_kinds; same_word = false } ∷ []

-- total store order: all but a store and a later load do (SPARC, version 9, appendix D)
abbrev pub total_store_order : List Rule
total_store_order =
    record { from = but_stores; to = all_kinds; same_word = false }
    ∷ record { from = but_loads; to = but_loads; same_word = false } ∷ []

-- partial store order: a store also passes later stores and atomics on other words; only a fence
-- keeps it before these (SPARC, version 9, section 8.4.5 and appendix D)
abbrev pub partial_store_order : List Rule
partial_store_order =
    record { from = but_stores; to = all_kinds; same_word = false }
    ∷ record { from = but_loads; to = fences; same_word = false } ∷ []

-- coherence: operations on one word stay in their order (Cantin, Lipasti and Smith, The complexity
-- of verifying memory coherence, 2003)
abbrev pub coherent : List Rule
coherent = record { from = but_fences; to = but_fences; same_word = true } ∷ []

-- coherence with fences: those on one word do, and all before and behind a fence (weak ordering:
-- Dubois, Scheurich and Briggs, Memory access buffering in multiprocessors, 1986)
abbrev pub fenced : List Rule
fenced =
    record { from = but_fences; to = but_fences; same_word = true }
    ∷ record { from = fences; to = all_kinds; same_word = false }
    ∷ record { from = all_kinds; to = fences; same_word = false } ∷ []
