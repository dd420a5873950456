-- The table of the paths, how a path leads to its row, and that each row is for the roles that the rules let ask there.
pub mod RoleRules
pub mod RouteTable
pub mod Router
