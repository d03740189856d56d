pub mod MembersOf
