-- The numbers that bound names, targets, trees and listings.
use Rattle.std.specs.Prelude.{ℕ}

-- bytes of a name, and of a component of a path or target
abbrev pub most_name : ℕ
most_name = 255

-- bytes of a link's target
abbrev pub most_target : ℕ
most_target = 1023

-- names in a tree, the root counted
abbrev pub most_names : ℕ
most_names = 65535

-- and in a tree that a listing of the third form lists
abbrev pub most_wide_names : ℕ
most_wide_names = 1065535

-- the number that no node is given
abbrev pub number_end : ℕ
number_end = 4294967295

-- lines of a listing after its header, of which the root's is the first
abbrev pub most_listed : ℕ
most_listed = 4096

-- and of one of the third form
abbrev pub most_wide : ℕ
most_wide = 1000000

-- the greatest number of a listing
abbrev pub highest_listed : ℕ
highest_listed = 999999
