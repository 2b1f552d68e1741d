use Rattle.pua_script.proofs.KeepTrees.{requests_keep_trees, replays_keep_trees}
use Rattle.pua_script.proofs.InBytes.{replays_keep_byte_trees, listings_list_byte_trees, scripts_ask_in_bytes}
use Rattle.pua_script.proofs.futures.bytes_law.Goals as goal

pub returns : goal.returns
returns c = record {
  one = requests_keep_trees;
  many = replays_keep_trees;
  last = replays_keep_byte_trees;
  listings = listings_list_byte_trees;
  scripts = scripts_ask_in_bytes;
}
