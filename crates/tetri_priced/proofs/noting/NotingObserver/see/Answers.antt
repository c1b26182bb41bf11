use Rattle.tetri_priced.proofs.noting.NotingObserver.see.Goals as goal

pub note-requires : goal.note-requires
note-requires g c = c.requires.shown.2.sound
