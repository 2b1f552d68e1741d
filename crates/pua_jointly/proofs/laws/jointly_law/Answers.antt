-- The laws are the theorems.
use Rattle.pua_jointly.proofs.JointlyDone.{jointly_within, jointly_complete, jointly_through, jointly_after_read}
use Rattle.pua_jointly.proofs.JointlyLasts.{jointly_lasts}
use Rattle.pua_jointly.proofs.JointLasting.{jointly_told}
use Rattle.pua_jointly.proofs.JointlyGrows.{joint_lists_grow, jointly_grows}
use Rattle.pua_jointly.proofs.JointTurning.{joint_held_listed, joint_starts_listed}
use Rattle.pua_jointly.proofs.laws.jointly_law.Goals as goal

pub returns-clause-within : goal.returns-clause-within
returns-clause-within c = jointly_within

pub returns-clause-complete : goal.returns-clause-complete
returns-clause-complete c = jointly_complete

pub returns-clause-through : goal.returns-clause-through
returns-clause-through c = jointly_through

pub returns-clause-read : goal.returns-clause-read
returns-clause-read c = jointly_after_read

pub returns-clause-lasts : goal.returns-clause-lasts
returns-clause-lasts c = jointly_lasts

pub returns-clause-grows : goal.returns-clause-grows
returns-clause-grows c = jointly_grows

pub returns-clause-lists : goal.returns-clause-lists
returns-clause-lists c = joint_lists_grow

pub returns-clause-starts : goal.returns-clause-starts
returns-clause-starts c = joint_starts_listed

pub returns-clause-held : goal.returns-clause-held
returns-clause-held c = joint_held_listed

pub returns-clause-told : goal.returns-clause-told
returns-clause-told c = jointly_told
