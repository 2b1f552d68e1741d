-- What contracts see of several processes as one.
use Rattle.pua_ever.specs.Together.{Joint}
use Rattle.pua_ever.specs.declared.joining.Joint.{Joint as Joined}

-- as the definition has them
abbrev pub joint_told : Joined → Joint
joint_told joint = record { locked = joint.locked; held = joint.held; given = joint.given }
