-- What stays on its file system.
use Rattle.std.specs.Prelude.{IsTrue}
use Rattle.pua_tree.specs.Laws.{KeepsDevices}
use Rattle.pua_calls.specs.Calls.{CallTable}
use Rattle.pua_script.specs.Bytes.{IsByteTree, is_in_bytes}
use Rattle.pua_script.specs.Replay.{World, apply}
use Rattle.pua_script.specs.Requests.{Asked}

-- a directory that lives on after a request is on the device on which it was
abbrev pub RequestsKeepDevices : Type 0
RequestsKeepDevices = (table : CallTable) (w : World) (ask : Asked) → IsByteTree w.tree → IsTrue (is_in_bytes ask.action) →
    KeepsDevices w.tree (apply table w ask).1.tree
