use Rattle.pua_path.proofs.FollowLaw.{follow_decides, kept_follows_none}
use Rattle.pua_path.proofs.LinksLaw.{lasts_follow, links_decide, steps_follow}
use Rattle.pua_path.proofs.laws.links_law.Goals as goal

pub returns : goal.returns
returns c = record { parts = links_decide; steps = steps_follow; lasts = lasts_follow; follow = follow_decides; kept = kept_follows_none }
