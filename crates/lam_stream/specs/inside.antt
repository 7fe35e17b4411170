pub mod TreeNodes  -- the nodes whose lines bytes begin with
