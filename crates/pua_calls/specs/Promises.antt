-- Sets of promises and of permissions as numbers, a bit for each member, and how they are read.
use Rattle.std.specs.Prelude.{ℕ, map, ◌*◌, ◌++◌, if◌then◌else◌, ◌-◌, ◌^◌, Bool, List, [], ◌∷◌, ◌==◌, Option, Some, None, Result, Ok, Err}
use Rattle.std.specs.Prelude.{codes, bit_and, bit_or, bit_xor, filter, find, not, position, option_map, slice_get}
use Rattle.std.specs.List.{slice_split}
use Rattle.pua_tree.specs.Names.{same_bytes}
use Rattle.pua_path.specs.declared.errno.Errno.{Errno}
use Rattle.pua_path.specs.declared.errno.Errno.TheVariants.{EINVAL}

-- every member of the second set is one of the first
abbrev pub holds : ℕ → ℕ → Bool
holds set wanted = bit_and set wanted == wanted

-- the members of a wanted set that a set lacks
abbrev pub lacking : ℕ → ℕ → ℕ
lacking set wanted = bit_xor wanted (bit_and wanted set)

-- the keywords of pledge, the first at bit 0
abbrev pub keywords : List (List ℕ)
keywords = codes "audio" ∷ codes "bpf" ∷ codes "chown" ∷ codes "cpath" ∷ codes "disklabel" ∷ codes "dns" ∷ codes "dpath" ∷ codes "drm"
    ∷ codes "error" ∷ codes "exec" ∷ codes "fattr" ∷ codes "flock"
    ∷ codes "getpw" ∷ codes "id" ∷ codes "inet" ∷ codes "mcast" ∷ codes "pf" ∷ codes "proc" ∷ codes "prot_exec" ∷ codes "ps"
    ∷ codes "recvfd" ∷ codes "route" ∷ codes "rpath" ∷ codes "sendfd"
    ∷ codes "settime" ∷ codes "stdio" ∷ codes "tape" ∷ codes "tmppath" ∷ codes "tty" ∷ codes "unix" ∷ codes "unveil" ∷ codes "video"
    ∷ codes "vminfo" ∷ codes "vmm" ∷ codes "wpath" ∷ codes "wroute" ∷ []

abbrev pub no_promises : ℕ
no_promises = 0

abbrev pub all_promises : ℕ
all_promises = 2 ^ 36 - 1

abbrev pub chown : ℕ
chown = 2 ^ 2

abbrev pub cpath : ℕ
cpath = 2 ^ 3

abbrev pub dpath : ℕ
dpath = 2 ^ 6

abbrev pub error : ℕ
error = 2 ^ 8

abbrev pub exec : ℕ
exec = 2 ^ 9

abbrev pub fattr : ℕ
fattr = 2 ^ 10

abbrev pub id : ℕ
id = 2 ^ 13

abbrev pub proc : ℕ
proc = 2 ^ 17

abbrev pub recvfd : ℕ
recvfd = 2 ^ 20

abbrev pub rpath : ℕ
rpath = 2 ^ 22

abbrev pub sendfd : ℕ
sendfd = 2 ^ 23

abbrev pub tmppath : ℕ
tmppath = 2 ^ 27

abbrev pub unix : ℕ
unix = 2 ^ 29

abbrev pub unveil : ℕ
unveil = 2 ^ 30

abbrev pub wpath : ℕ
wpath = 2 ^ 34

-- names with bits that double from one to the next
abbrev pub rows_from : ℕ → List (List ℕ) → List (List ℕ × ℕ)
rows_from bit [] = []
rows_from bit (name ∷ names) = (name, bit) ∷ rows_from (bit * 2) names

-- each keyword with its bit
abbrev pub keyword_rows : List (List ℕ × ℕ)
keyword_rows = rows_from 1 keywords

-- the bit of a keyword
abbrev pub promise_of : List ℕ → Option ℕ
promise_of word = option_map (λ row. row.1) (find (λ row. same_bytes row.0 word) keyword_rows)

-- a set and further members, unless one of them is unknown
abbrev pub union_or_fault : ℕ → Result ℕ Errno → Result ℕ Errno
union_or_fault set (Ok more) = Ok (bit_or set more)
union_or_fault set (Err errno) = Err errno

-- the members that words name, unless one is unknown
abbrev pub union_of : List (Option ℕ) → Result ℕ Errno
union_of [] = Ok 0
union_of (None ∷ words) = Err EINVAL
union_of (Some bits ∷ words) = union_or_fault bits (union_of words)

-- keywords between commas; no text is the empty set
abbrev pub promises_of : List ℕ → Result ℕ Errno
promises_of [] = Ok no_promises
promises_of (b ∷ more) = union_of (map promise_of (slice_split (λ b. b == 44) (b ∷ more)))

-- every keyword but one
abbrev pub other_promises : List ℕ → Result ℕ Errno
other_promises word = union_of (map (λ row. Some row.1) (filter (λ row. not (same_bytes row.0 word)) keyword_rows))

-- the keywords of a set's members, in the order of all keywords
abbrev pub keywords_of : ℕ → List (List ℕ)
keywords_of set = map (λ row. row.0) (filter (λ row. holds set row.1) keyword_rows)

-- the keyword at an index, if it is one of a set's
abbrev pub keyword_if : ℕ → Option (List ℕ × ℕ) → Option (List ℕ)
keyword_if set None = None
keyword_if set (Some row) = if holds set row.1 then Some row.0 else None

abbrev pub keyword_at : ℕ → ℕ → Option (List ℕ)
keyword_at set index = keyword_if set (slice_get keyword_rows index)

-- the letters of permissions
abbrev pub letter_of : ℕ → Option ℕ
letter_of b = option_map (λ place. 2 ^ place) (position (λ letter. letter == b) (codes "rwxc"))

abbrev pub perms_of : List ℕ → Result ℕ Errno
perms_of text = union_of (map letter_of text)

abbrev pub reading : ℕ
reading = 1

abbrev pub writing : ℕ
writing = 2

abbrev pub executing : ℕ
executing = 4

abbrev pub creating : ℕ
creating = 8

-- the letters of a set of permissions, in their order
abbrev pub perm_letters : ℕ → List ℕ
perm_letters perms = (if holds perms reading then codes "r" else []) ++ (if holds perms writing then codes "w" else [])
    ++ (if holds perms executing then codes "x" else []) ++ (if holds perms creating then codes "c" else [])
