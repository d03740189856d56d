pub mod RulesToday
