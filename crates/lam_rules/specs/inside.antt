pub mod RuleOf  -- the rule of a number
pub mod RunsOf  -- the runs of a list that grows at its end
pub mod Steps  -- the running numbers of a partial that grows at its end
