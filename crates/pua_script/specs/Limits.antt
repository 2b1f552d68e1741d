-- The limits of scripts and of worlds.
use Rattle.std.specs.Prelude.{ℕ}

-- the most lines of a script
abbrev pub most_script_lines : ℕ
most_script_lines = 60000

-- the greatest number of a process
abbrev pub most_number : ℕ
most_number = 999999

-- the greatest number of a descriptor
abbrev pub most_descriptor : ℕ
most_descriptor = 1023

-- the most processes that are ever made
abbrev pub most_processes : ℕ
most_processes = 256
