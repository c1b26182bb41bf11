-- The lines of the hosts of a partition.
use Rattle.std.specs.Prelude.{ℕ, List, ◌++◌, codes}

-- a host that is in a partition, as n1|idle|batch|
abbrev pub host_line : List ℕ → List ℕ → List ℕ
host_line partition host = host ++ codes "|idle|" ++ partition ++ codes "|\n"
