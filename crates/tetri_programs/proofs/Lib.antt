mod ExportLemmas
mod WatchLemmas
