-- Worked rows on what is said of lines that are refused.
use Rattle.std.specs.Prelude.{◌≡◌, [], ◌∷◌, ◌++◌, Some, None, codes, refl}
use Rattle.pua_tree.specs.Examples.{text_of_lines}
use Rattle.pua_calls.specs.declared.rules.Rules.TheVariants.{Standard, Openbsd}
use Rattle.pua_script.specs.declared.fault.ScriptFault.TheVariants.{BadLine, BadCall, TooMany}
use Rattle.pua_advice.specs.declared.arguments.Arguments.TheVariants.{Nothing, Number, Path, TargetAndPath, TwoPaths, Promises, PathAndLetters, AnyPromises}
use Rattle.pua_advice.specs.declared.arguments.Arguments.TheVariants.{Descriptor, ToHold, ToTake}
use Rattle.pua_advice.specs.Advice.{EmptyLine, ExtraBlank, HiddenByte, NoNumber, NoCall, UnknownCall, Takes, NoPath, HasNul, EmptyPromise}
use Rattle.pua_advice.specs.Advice.{UnknownPromise, UnneededPromise, RepeatedPromise, NoDescriptor, NoOpening}
use Rattle.pua_advice.specs.Advice.{advice_of, script_advice}
use Rattle.pua_advice.specs.Texts.{advice_text}

-- lines whose words are not parted as they have to be, or have no number or call
pub record FormRows : Type 0 where
  pub empty_line : advice_of Standard [] ≡ Some EmptyLine
  pub empty_line_by_openbsd : advice_of Openbsd [] ≡ None
  pub comment : advice_of Openbsd (codes "# x") ≡ None
  pub standard_comment : advice_of Standard (codes "# x") ≡ Some (NoNumber (codes "#"))
  pub before_comment : advice_of Openbsd (codes "1 stat # /") ≡ Some (Takes (codes "stat") Path)
  pub two_blanks : advice_of Openbsd (codes "1 stat  /") ≡ Some ExtraBlank
  pub blank_first : advice_of Openbsd (codes " 1 stat /") ≡ Some ExtraBlank
  pub blank_last : advice_of Openbsd (codes "1 stat / ") ≡ Some ExtraBlank
  pub blanks_alone : advice_of Openbsd (codes "  ") ≡ None
  pub tab : advice_of Openbsd (codes "1" ++ 9 ∷ codes "stat /") ≡ Some (HiddenByte 9)
  pub letter_beyond_ascii : advice_of Openbsd (codes "1 stat /" ++ 195 ∷ 169 ∷ []) ≡ Some (HiddenByte 195)
  -- the first thing from the left, whatever stands before it
  pub blank_before_byte : advice_of Openbsd (codes "mount  /" ++ 195 ∷ []) ≡ Some ExtraBlank
  pub byte_before_blank : advice_of Openbsd (codes "mount" ++ 9 ∷ codes "/ ") ≡ Some (HiddenByte 9)
  pub no_process : advice_of Openbsd (codes "stat /") ≡ Some (NoNumber (codes "stat"))
  pub process_zero : advice_of Openbsd (codes "0 mount /") ≡ Some (NoNumber (codes "0"))
  pub process_too_high : advice_of Openbsd (codes "1000000 stat /") ≡ Some (NoNumber (codes "1000000"))
  pub no_call : advice_of Openbsd (codes "1") ≡ Some NoCall

pub form_rows : FormRows
form_rows = record {
  empty_line = refl;
  empty_line_by_openbsd = refl;
  comment = refl;
  standard_comment = refl;
  before_comment = refl;
  two_blanks = refl;
  blank_first = refl;
  blank_last = refl;
  blanks_alone = refl;
  tab = refl;
  letter_beyond_ascii = refl;
  blank_before_byte = refl;
  byte_before_blank = refl;
  no_process = refl;
  process_zero = refl;
  process_too_high = refl;
  no_call = refl;
}

-- calls that there are not, and calls with other arguments than they take
pub record CallRows : Type 0 where
  pub unknown : advice_of Openbsd (codes "1 mount /var/empty") ≡ Some (UnknownCall (codes "mount"))
  pub open_alone : advice_of Openbsd (codes "1 open /x r") ≡ Some (UnknownCall (codes "open"))
  pub unknown_with_many : advice_of Openbsd (codes "1 openat 3 /x O_RDONLY 0") ≡ Some (UnknownCall (codes "openat"))
  pub capitals : advice_of Openbsd (codes "1 STAT /") ≡ Some (UnknownCall (codes "STAT"))
  pub socket : advice_of Openbsd (codes "1 connect") ≡ Some (Takes (codes "connect") Path)
  pub socket_by_standard : advice_of Standard (codes "1 connect /s") ≡ Some (UnknownCall (codes "connect"))
  pub neighbour : advice_of Openbsd (codes "1 access / r") ≡ Some (Takes (codes "access") Path)
  pub path_too_many : advice_of Openbsd (codes "1 exec /x -c y") ≡ Some (Takes (codes "exec") Path)
  pub one_of_two : advice_of Openbsd (codes "1 rename /a") ≡ Some (Takes (codes "rename") TwoPaths)
  pub three_of_two : advice_of Openbsd (codes "1 link /a /b /c") ≡ Some (Takes (codes "link") TwoPaths)
  pub symlink : advice_of Openbsd (codes "1 symlink /a") ≡ Some (Takes (codes "symlink") TargetAndPath)
  pub promises_by_blanks : advice_of Openbsd (codes "1 pledge stdio rpath -") ≡ Some (Takes (codes "pledge") Promises)
  pub execpromises_left_out : advice_of Openbsd (codes "1 pledge stdio") ≡ Some (Takes (codes "pledge") Promises)
  pub letters_left_out : advice_of Openbsd (codes "1 unveil /www") ≡ Some (Takes (codes "unveil") PathAndLetters)
  pub half_a_lock : advice_of Openbsd (codes "1 unveil -") ≡ Some (Takes (codes "unveil") PathAndLetters)
  pub letters_of_no_path : advice_of Openbsd (codes "1 unveil - r") ≡ Some (Takes (codes "unveil") PathAndLetters)
  pub path_without_letters : advice_of Openbsd (codes "1 unveil /www -") ≡ Some (Takes (codes "unveil") PathAndLetters)
  pub fork_alone : advice_of Openbsd (codes "1 fork") ≡ Some (Takes (codes "fork") Number)
  pub fork_of_zero : advice_of Openbsd (codes "1 fork 0") ≡ Some (NoNumber (codes "0"))
  pub exit_with_status : advice_of Openbsd (codes "1 exit 0") ≡ Some (Takes (codes "exit") Nothing)

pub call_rows : CallRows
call_rows = record {
  unknown = refl;
  open_alone = refl;
  unknown_with_many = refl;
  capitals = refl;
  socket = refl;
  socket_by_standard = refl;
  neighbour = refl;
  path_too_many = refl;
  one_of_two = refl;
  three_of_two = refl;
  symlink = refl;
  promises_by_blanks = refl;
  execpromises_left_out = refl;
  letters_left_out = refl;
  half_a_lock = refl;
  letters_of_no_path = refl;
  path_without_letters = refl;
  fork_alone = refl;
  fork_of_zero = refl;
  exit_with_status = refl;
}

-- arguments that are none, and lines that are read
pub record ArgumentRows : Type 0 where
  pub no_spelling : advice_of Openbsd (codes "1 stat /a\\b") ≡ Some (NoPath (codes "/a\\b"))
  pub needless_spelling : advice_of Openbsd (codes "1 stat /\\141") ≡ Some (NoPath (codes "/\\141"))
  pub nul : advice_of Openbsd (codes "1 stat /\\000") ≡ Some (HasNul (codes "/\\000"))
  pub first_path : advice_of Openbsd (codes "1 rename /\\ /\\000") ≡ Some (NoPath (codes "/\\"))
  pub second_path : advice_of Openbsd (codes "1 symlink = /\\000") ≡ Some (HasNul (codes "/\\000"))
  pub path_before_letters : advice_of Openbsd (codes "1 unveil /\\ -") ≡ Some (NoPath (codes "/\\"))
  pub doubled_comma : advice_of Openbsd (codes "1 pledge stdio,,rpath -") ≡ Some (EmptyPromise (codes "stdio,,rpath"))
  pub comma_in_execpromises : advice_of Openbsd (codes "1 pledge - stdio,") ≡ Some (EmptyPromise (codes "stdio,"))
  -- a kernel refuses these, so they are read
  pub unknown_promise : advice_of Openbsd (codes "1 pledge stdio,all -") ≡ None
  pub unknown_letter : advice_of Openbsd (codes "1 unveil /www q") ≡ None
  pub lock : advice_of Openbsd (codes "1 unveil - -") ≡ None

pub argument_rows : ArgumentRows
argument_rows = record {
  no_spelling = refl;
  needless_spelling = refl;
  nul = refl;
  first_path = refl;
  second_path = refl;
  path_before_letters = refl;
  doubled_comma = refl;
  comma_in_execpromises = refl;
  unknown_promise = refl;
  unknown_letter = refl;
  lock = refl;
}

-- promises of which a call needs one
pub record UsesRows : Type 0 where
  pub promises_left_out : advice_of Openbsd (codes "1 uses") ≡ Some (Takes (codes "uses") AnyPromises)
  pub promises_by_blanks : advice_of Openbsd (codes "1 uses inet unix") ≡ Some (Takes (codes "uses") AnyPromises)
  pub promises_by_commas : advice_of Openbsd (codes "1 uses inet,unix") ≡ Some (Takes (codes "uses") AnyPromises)
  pub promises_by_three : advice_of Openbsd (codes "1 uses inet unix dns") ≡ Some (Takes (codes "uses") AnyPromises)
  pub bar_first : advice_of Openbsd (codes "1 uses |inet") ≡ Some (Takes (codes "uses") AnyPromises)
  pub bar_last : advice_of Openbsd (codes "1 uses inet|") ≡ Some (Takes (codes "uses") AnyPromises)
  pub unknown : advice_of Openbsd (codes "1 uses inet|zpath") ≡ Some (UnknownPromise (codes "zpath"))
  pub null : advice_of Openbsd (codes "1 uses -") ≡ Some (UnknownPromise (codes "-"))
  pub error : advice_of Openbsd (codes "1 uses error|inet") ≡ Some (UnneededPromise (codes "error"))
  pub twice : advice_of Openbsd (codes "1 uses inet|unix|inet") ≡ Some (RepeatedPromise (codes "inet"))
  -- the first from the left
  pub twice_before_unknown : advice_of Openbsd (codes "1 uses id|id|zpath") ≡ Some (RepeatedPromise (codes "id"))
  pub unknown_twice : advice_of Openbsd (codes "1 uses zpath|zpath") ≡ Some (UnknownPromise (codes "zpath"))
  pub number_first : advice_of Openbsd (codes "0 uses zpath") ≡ Some (NoNumber (codes "0"))
  pub two_promises : advice_of Openbsd (codes "1 uses inet|unix") ≡ None
  -- by the standard rules it is no call
  pub standard : advice_of Standard (codes "1 uses inet") ≡ Some (UnknownCall (codes "uses"))

pub uses_rows : UsesRows
uses_rows = record {
  promises_left_out = refl;
  promises_by_blanks = refl;
  promises_by_commas = refl;
  promises_by_three = refl;
  bar_first = refl;
  bar_last = refl;
  unknown = refl;
  null = refl;
  error = refl;
  twice = refl;
  twice_before_unknown = refl;
  unknown_twice = refl;
  number_first = refl;
  two_promises = refl;
  standard = refl;
}

-- descriptors and the root
pub record FileRows : Type 0 where
  pub number_left_out : advice_of Openbsd (codes "1 close") ≡ Some (Takes (codes "close") Descriptor)
  pub two_numbers : advice_of Openbsd (codes "1 close 3 4") ≡ Some (Takes (codes "close") Descriptor)
  pub number_too_high : advice_of Openbsd (codes "1 close 1024") ≡ Some (NoDescriptor (codes "1024"))
  pub directory_by_path : advice_of Openbsd (codes "1 fchdir /tmp") ≡ Some (NoDescriptor (codes "/tmp"))
  pub path_left_out : advice_of Openbsd (codes "1 hold 3 open-r") ≡ Some (Takes (codes "hold") ToHold)
  pub path_alone : advice_of Openbsd (codes "1 hold /x") ≡ Some (Takes (codes "hold") ToHold)
  pub number_behind : advice_of Openbsd (codes "1 hold open-r 3 /x") ≡ Some (NoDescriptor (codes "open-r"))
  pub no_call_that_opens : advice_of Openbsd (codes "1 hold 3 stat /x") ≡ Some (NoOpening (codes "stat"))
  pub call_that_makes : advice_of Openbsd (codes "1 hold 3 create /x") ≡ Some (NoOpening (codes "create"))
  pub bad_path : advice_of Openbsd (codes "1 hold 3 open-r /\\") ≡ Some (NoPath (codes "/\\"))
  pub sender_left_out : advice_of Openbsd (codes "1 take 3 3") ≡ Some (Takes (codes "take") ToTake)
  pub sender_zero : advice_of Openbsd (codes "1 take 3 0 3") ≡ Some (NoNumber (codes "0"))
  pub sent_too_high : advice_of Openbsd (codes "1 take 3 2 1024") ≡ Some (NoDescriptor (codes "1024"))
  pub four_of_three : advice_of Openbsd (codes "1 take 3 2 3 4") ≡ Some (Takes (codes "take") ToTake)
  pub good_hold : advice_of Openbsd (codes "1 hold 1023 open-rw /x") ≡ None
  pub good_take : advice_of Openbsd (codes "1 take 0 999999 1023") ≡ None
  pub root_left_out : advice_of Openbsd (codes "1 chroot") ≡ Some (Takes (codes "chroot") Path)
  pub two_roots : advice_of Openbsd (codes "1 chroot /a /b") ≡ Some (Takes (codes "chroot") Path)
  pub three_roots : advice_of Openbsd (codes "1 chroot /a /b /c") ≡ Some (Takes (codes "chroot") Path)
  pub bad_root : advice_of Openbsd (codes "1 chroot /\\") ≡ Some (NoPath (codes "/\\"))
  pub good_root : advice_of Openbsd (codes "1 chroot /var/empty") ≡ None
  -- by the standard rules they are no calls
  pub standard : advice_of Standard (codes "1 close 3") ≡ Some (UnknownCall (codes "close"))
  pub standard_three : advice_of Standard (codes "1 take 3 2 3") ≡ Some (UnknownCall (codes "take"))
  pub standard_root : advice_of Standard (codes "1 chroot /") ≡ Some (UnknownCall (codes "chroot"))

pub file_rows : FileRows
file_rows = record {
  number_left_out = refl;
  two_numbers = refl;
  number_too_high = refl;
  directory_by_path = refl;
  path_left_out = refl;
  path_alone = refl;
  number_behind = refl;
  no_call_that_opens = refl;
  call_that_makes = refl;
  bad_path = refl;
  sender_left_out = refl;
  sender_zero = refl;
  sent_too_high = refl;
  four_of_three = refl;
  good_hold = refl;
  good_take = refl;
  root_left_out = refl;
  two_roots = refl;
  three_roots = refl;
  bad_root = refl;
  good_root = refl;
  standard = refl;
  standard_three = refl;
  standard_root = refl;
}

-- the line that is to blame
pub record BlameRows : Type 0 where
  pub second_line : script_advice Openbsd (text_of_lines (codes "1 stat /" ∷ codes "1 mount /" ∷ codes "1 open" ∷ [])) (BadCall 2)
      ≡ Some (UnknownCall (codes "mount"))
  pub carriage_return : script_advice Openbsd (codes "1 open" ++ 13 ∷ 10 ∷ []) (BadCall 1) ≡ Some (UnknownCall (codes "open"))
  pub last_without_end : script_advice Openbsd (codes "stat /") (BadLine 1) ≡ Some (NoNumber (codes "stat"))
  pub empty_line : script_advice Standard (10 ∷ codes "1 stat /") (BadLine 1) ≡ Some EmptyLine
  pub no_line : script_advice Openbsd (codes "1 open") TooMany ≡ None

pub blame_rows : BlameRows
blame_rows = record { second_line = refl; carriage_return = refl; last_without_end = refl; empty_line = refl; no_line = refl }

-- how each is told
pub record TextRows : Type 0 where
  pub empty_line : advice_text EmptyLine ≡ codes "a line has a process, a call and its arguments"
  pub blank : advice_text ExtraBlank ≡ codes "one blank stands between two words, and none at an end"
  pub byte : advice_text (HiddenByte 9) ≡ codes "a word has visible ASCII alone, not \\011"
  pub number : advice_text (NoNumber (codes "stat")) ≡ codes "\"stat\" is no number of a process, 1 to 999999"
  pub no_call : advice_text NoCall ≡ codes "no call stands behind the process"
  pub unknown : advice_text (UnknownCall (codes "mount")) ≡ codes "no call \"mount\" by these rules"
  pub takes_nothing : advice_text (Takes (codes "exit") Nothing) ≡ codes "exit takes nothing"
  pub takes_number : advice_text (Takes (codes "fork") Number) ≡ codes "fork takes the number of a new process"
  pub takes_path : advice_text (Takes (codes "stat") Path) ≡ codes "stat takes one path"
  pub takes_target : advice_text (Takes (codes "symlink") TargetAndPath) ≡ codes "symlink takes a target and a path"
  pub takes_paths : advice_text (Takes (codes "rename") TwoPaths) ≡ codes "rename takes two paths"
  pub takes_promises : advice_text (Takes (codes "pledge") Promises)
      ≡ codes "pledge takes two lists of promises, with commas, or - for one"
  pub takes_letters : advice_text (Takes (codes "unveil") PathAndLetters) ≡ codes "unveil takes a path and letters, or two -"
  pub takes_descriptor : advice_text (Takes (codes "close") Descriptor) ≡ codes "close takes the number of a descriptor"
  pub takes_to_hold : advice_text (Takes (codes "hold") ToHold) ≡ codes "hold takes a descriptor, a call that opens, and a path"
  pub takes_to_take : advice_text (Takes (codes "take") ToTake) ≡ codes "take takes a descriptor, a process, and its descriptor"
  pub descriptor : advice_text (NoDescriptor (codes "1024")) ≡ codes "\"1024\" is no number of a descriptor, 0 to 1023"
  pub opening : advice_text (NoOpening (codes "stat")) ≡ codes "\"stat\" is not open-r, open-w or open-rw"
  pub takes_any : advice_text (Takes (codes "uses") AnyPromises) ≡ codes "uses takes promises with | between them"
  pub no_path : advice_text (NoPath (codes "/a\\b"))
      ≡ codes "\"/a\\b\" spells no path: a backslash is \\134, and visible bytes stand for themselves"
  pub nul : advice_text (HasNul (codes "/\\000")) ≡ codes "\"/\\000\" has a NUL, and no path has one"
  pub promise : advice_text (EmptyPromise (codes "a,")) ≡ codes "\"a,\" has an empty promise: one comma stands between two"
  pub unknown_promise : advice_text (UnknownPromise (codes "zpath")) ≡ codes "no promise \"zpath\""
  pub unneeded_promise : advice_text (UnneededPromise (codes "error")) ≡ codes "no call needs \"error\""
  pub repeated_promise : advice_text (RepeatedPromise (codes "inet")) ≡ codes "\"inet\" stands twice"

pub text_rows : TextRows
text_rows = record {
  empty_line = refl;
  blank = refl;
  byte = refl;
  number = refl;
  no_call = refl;
  unknown = refl;
  takes_nothing = refl;
  takes_number = refl;
  takes_path = refl;
  takes_target = refl;
  takes_paths = refl;
  takes_promises = refl;
  takes_letters = refl;
  takes_descriptor = refl;
  takes_to_hold = refl;
  takes_to_take = refl;
  descriptor = refl;
  opening = refl;
  takes_any = refl;
  no_path = refl;
  nul = refl;
  promise = refl;
  unknown_promise = refl;
  unneeded_promise = refl;
  repeated_promise = refl;
}
