use Rattle.tetri_programs.proofs.watching.WatchingObserver.see.Goals as goal

pub take-requires : goal.take-requires
take-requires c = c.requires.shown.2.sound
