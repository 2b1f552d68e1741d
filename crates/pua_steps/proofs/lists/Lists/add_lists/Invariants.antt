use Rattle.pua_steps.proofs.Common.{◌≡◌, ◌<◌, ◌+◌, ℕ, length, get_or, AllByRecursion, list_of, IsListAt, IsLonger, IsEntry, Entry, Span}
use Rattle.pua_steps.proofs.lists.Lists.add_lists.Given as goal

abbrev pub invariant-loop-dir : goal.invariant-loop-dir
invariant-loop-dir l = record {
  layers : l.self.layers ≡ l.fn.self.layers;
  known : AllByRecursion (λ e. IsEntry l.steps e) l.self.entries.items;
  entries : IsLonger Entry l.fn.self.entries.items l.self.entries.items;
  spans : IsLonger Span l.fn.self.spans.items l.self.spans.items;
  many : length l.self.spans.items ≡ length l.fn.self.spans.items + l.dir;
  lists : (d : ℕ) → d < l.dir →
      IsListAt l.self.entries.items (get_or l.self.spans.items (length l.fn.self.spans.items + d) (record { place = 0; end = 0 }))
      (list_of l.steps l.live l.left d);
}
