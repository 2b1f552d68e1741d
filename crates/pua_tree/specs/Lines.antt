-- A line as its reader gives it.
use Rattle.pua_tree.specs.Listing.{ListingLine}
use Rattle.pua_tree.specs.declared.line.ListingLine.{ListingLine as Parts}

-- what the parts of a line are, where each lies in the line
abbrev pub line_read : Parts → ListingLine
line_read parts = record {
  number = parts.number.now;
  kind = parts.kind;
  mount = parts.mount;
  parent = parts.parent.now;
  name = parts.name.now;
  last = parts.last.now;
}
