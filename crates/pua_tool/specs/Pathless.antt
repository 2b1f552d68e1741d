-- The calls without a path that ask for more than `stdio`, by the promises of which they need one, by OpenBSD's rules (pledge(2), and
-- its sources).
use Rattle.std.specs.Prelude.{ℕ, List, [], ◌∷◌, codes, flat_map, if◌then◌else◌}
use Rattle.std.specs.Str.{bytes_eq}
use Rattle.pua_calls.specs.Promises.{keywords_of}

-- those that the promise with this keyword lets through, alone or as one of several; none for most promises
abbrev pub pathless : List ℕ → List ℕ
pathless keyword = if bytes_eq keyword (codes "dns") then codes "connect,getsockname,socket"
    else (if bytes_eq keyword (codes "flock") then codes "fcntl,flock"
    else (if bytes_eq keyword (codes "id")
    then codes "getpriority,setegid,seteuid,setgid,setgroups,setlogin,setpriority,setregid,setresgid,setresuid,setreuid,setrlimit,setuid"
    else (if bytes_eq keyword (codes "inet") then codes "accept,accept4,bind,connect,getpeername,getsockname,listen,socket"
    else (if bytes_eq keyword (codes "proc") then codes "getpriority,kill,setpgid,setpriority,setrlimit,setsid"
    else (if bytes_eq keyword (codes "route") then codes "socket"
    else (if bytes_eq keyword (codes "settime") then codes "adjfreq,adjtime,settimeofday"
    else (if bytes_eq keyword (codes "unix") then codes "accept,accept4,getpeername,getsockname,listen,socket" else [])))))))

-- the names of calls behind other words, if there are some
abbrev pub behind_words : List ℕ → List ℕ
behind_words [] = []
behind_words (b ∷ more) = 32 ∷ b ∷ more

abbrev pub pathless_told : List ℕ → List ℕ
pathless_told keyword = behind_words (pathless keyword)

-- those of a set of promises, which of one word of a script has one member
unfoldable pub pathless_of : ℕ → List ℕ
pathless_of set = flat_map pathless_told (keywords_of set)
