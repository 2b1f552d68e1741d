-- How an advice is told.
use Rattle.std.specs.Prelude.{ℕ, List, [], ◌++◌, codes}
use Rattle.pua_tree.specs.Spelling.{byte_spelling}
use Rattle.pua_advice.specs.declared.arguments.Arguments.{Arguments}
use Rattle.pua_advice.specs.declared.arguments.Arguments.TheVariants.{Nothing, Number, Path, TargetAndPath, TwoPaths, Promises, PathAndLetters, AnyPromises}
use Rattle.pua_advice.specs.declared.arguments.Arguments.TheVariants.{Descriptor, ToHold, ToTake}
use Rattle.pua_advice.specs.declared.wrong_part.WrongPart.{WrongPart}
use Rattle.pua_advice.specs.declared.wrong_part.WrongPart.TheVariants.{Line, Word, Byte}
use Rattle.pua_advice.specs.Advice.{Advised, EmptyLine, ExtraBlank, HiddenByte, NoNumber, NoCall, UnknownCall, Takes, NoPath, HasNul, EmptyPromise}
use Rattle.pua_advice.specs.Advice.{UnknownPromise, UnneededPromise, RepeatedPromise, NoDescriptor, NoOpening}

-- what a call takes, behind its word
abbrev pub taken_text : Arguments → List ℕ
taken_text Nothing = codes " takes nothing"
taken_text Number = codes " takes the number of a new process"
taken_text Path = codes " takes one path"
taken_text TargetAndPath = codes " takes a target and a path"
taken_text TwoPaths = codes " takes two paths"
taken_text Promises = codes " takes two lists of promises, with commas, or - for one"
taken_text PathAndLetters = codes " takes a path and letters, or two -"
taken_text AnyPromises = codes " takes promises with | between them"
taken_text Descriptor = codes " takes the number of a descriptor"
taken_text ToHold = codes " takes a descriptor, a call that opens, and a path"
taken_text ToTake = codes " takes a descriptor, a process, and its descriptor"

-- what is said before the word or byte that an advice is about, that itself, and what is said behind it
abbrev pub said_before : Advised → List ℕ
said_before EmptyLine = codes "a line has a process, a call and its arguments"
said_before ExtraBlank = codes "one blank stands between two words, and none at an end"
said_before (HiddenByte byte) = codes "a word has visible ASCII alone, not "
said_before (NoNumber word) = codes "\""
said_before NoCall = codes "no call stands behind the process"
said_before (UnknownCall word) = codes "no call \""
said_before (Takes word what) = []
said_before (NoPath word) = codes "\""
said_before (HasNul word) = codes "\""
said_before (EmptyPromise word) = codes "\""
said_before (UnknownPromise word) = codes "no promise \""
said_before (UnneededPromise word) = codes "no call needs \""
said_before (RepeatedPromise word) = codes "\""
said_before (NoDescriptor word) = codes "\""
said_before (NoOpening word) = codes "\""

abbrev pub said_word : Advised → List ℕ
said_word EmptyLine = []
said_word ExtraBlank = []
said_word (HiddenByte byte) = byte_spelling byte
said_word (NoNumber word) = word
said_word NoCall = []
said_word (UnknownCall word) = word
said_word (Takes word what) = word
said_word (NoPath word) = word
said_word (HasNul word) = word
said_word (EmptyPromise word) = word
said_word (UnknownPromise word) = word
said_word (UnneededPromise word) = word
said_word (RepeatedPromise word) = word
said_word (NoDescriptor word) = word
said_word (NoOpening word) = word

abbrev pub said_behind : Advised → List ℕ
said_behind EmptyLine = []
said_behind ExtraBlank = []
said_behind (HiddenByte byte) = []
said_behind (NoNumber word) = codes "\" is no number of a process, 1 to 999999"
said_behind NoCall = []
said_behind (UnknownCall word) = codes "\" by these rules"
said_behind (Takes word what) = taken_text what
said_behind (NoPath word) = codes "\" spells no path: a backslash is \\134, and visible bytes stand for themselves"
said_behind (HasNul word) = codes "\" has a NUL, and no path has one"
said_behind (EmptyPromise word) = codes "\" has an empty promise: one comma stands between two"
said_behind (UnknownPromise word) = codes "\""
said_behind (UnneededPromise word) = codes "\""
said_behind (RepeatedPromise word) = codes "\" stands twice"
said_behind (NoDescriptor word) = codes "\" is no number of a descriptor, 0 to 1023"
said_behind (NoOpening word) = codes "\" is not open-r, open-w or open-rw"

abbrev pub advice_text : Advised → List ℕ
advice_text advice = said_before advice ++ said_word advice ++ said_behind advice

-- the word or byte as it is told
abbrev pub wrong_part_text : WrongPart → List ℕ
wrong_part_text Line = []
wrong_part_text (Word word) = word.now
wrong_part_text (Byte byte) = byte_spelling byte
