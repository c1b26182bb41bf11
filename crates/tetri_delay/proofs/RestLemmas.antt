-- What is left to plan beside held grants is sound.
use Rattle.std.proofs.Common.{ℕ, ◌+◌, ◌<◌, List, [], ◌∷◌, ◌++◌, length, arith}
use Rattle.std.specs.Prelude.{All}
use Rattle.std.proofs.lemmas.List.{length-append}
use Rattle.std.proofs.lemmas.List.Elements.{All-push, All-weaker}
use Rattle.tetri_space.specs.Closed.{AreSoundClosures, IsSoundClosure}
use Rattle.tetri_space.specs.Lawful.{IsLawful}
use Rattle.tetri_space.specs.Sound.{IsSound, IsSoundBid}
use Rattle.tetri_space.specs.Space.{Space}
use Rattle.tetri_space.specs.declared.closure.Closure.{Closure}

-- one more closure
pub closures_more : (nodes : ℕ) (cs : List Closure) (c : Closure) → AreSoundClosures nodes cs → IsSoundClosure nodes c → length cs < 4096 → AreSoundClosures nodes (cs ++ c ∷ [])
closures_more nodes cs c sound good few = record {
  few = omega (arith, length-append cs (c ∷ []), few);
  each = All-push (IsSoundClosure nodes) cs c sound.each good;
}

-- no grant is lawful
pub nothing_lawful : (s : Space) → IsLawful s []
nothing_lawful s = record {
  grants = λ k d within. absurd (omega arith);
  apart = λ i j d lt within. absurd (omega arith);
}

-- other closures
pub closed_sound : (s : Space) (cs : List Closure) → IsSound s → AreSoundClosures s.nodes cs → IsSound (record s { closures = cs })
closed_sound s cs sound closures = record {
  early = sound.early;
  some_slots = sound.some_slots;
  few_slots = sound.few_slots;
  some_nodes = sound.some_nodes;
  few_nodes = sound.few_nodes;
  all_known = sound.all_known;
  all_marked = sound.all_marked;
  busy_within = sound.busy_within;
  sound_closures = closures;
  few_jobs = sound.few_jobs;
  ascending = sound.ascending;
  sound_bids = All-weaker (IsSoundBid s) (IsSoundBid (record s { closures = cs })) (λ b h. record {
    well_made = h.well_made;
    known_sets = λ k d within. record { known = (h.known_sets k d within).known; there = (h.known_sets k d within).there };
  }) s.bids sound.sound_bids;
}
