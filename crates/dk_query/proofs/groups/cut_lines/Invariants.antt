-- The lines of the groups so far, with those of the group that has begun and of the lines that are left, are all.
use Rattle.std.proofs.Common.{◌≡◌, ◌<◌, ◌≤◌, ◌-◌, drop, take, map, length, ◌++◌}
use Rattle.dk_query.specs.Groups.{groups_behind, groups_in, group_line}
use Rattle.dk_query.proofs.groups.cut_lines.Given as goal

abbrev pub invariant-lines : goal.invariant-lines
invariant-lines l = record {
  begun : l.start < l.at;
  within : l.at ≤ length l.lines;
  all : l.found.items ++ map (group_line l.items) (groups_behind l.keys (take (l.at - l.start) (drop l.start l.lines))
      (drop l.at l.lines)) ≡ map (group_line l.items) (groups_in l.keys l.lines);
}

abbrev pub decreases-lines : goal.decreases-lines
decreases-lines l = length l.lines - l.at
